-- The journal of a plain ledger, and what rulings and records make of it.
use Rattle.std.proofs.Common.{◌≡◌, ◌∙◌, ◌==◌, ◌<◌, ◌++◌, ℕ, Bool, true, false, List, [], ◌∷◌}
use Rattle.std.proofs.Common.{length, refl, sym, ap, subst, Option, Some, None, Result, Ok, Err}
use Rattle.std.proofs.Common.{arith}
use Rattle.std.proofs.Common.{eqb-true, true≢false, ◌+◌}
use Rattle.book_model.specs.declared.answer.Accepted.{Accepted}
use Rattle.book_model.specs.declared.answer.Accepted.TheVariants.{Kept, Known, Unpriced}
use Rattle.book_model.specs.declared.answer.Ruled.{Ruled}
use Rattle.book_model.specs.declared.answer.Ruled.TheVariants.{Done, Already}
use Rattle.book_model.specs.declared.fault.LedgerFault.{LedgerFault}
use Rattle.book_model.specs.declared.fault.LedgerFault.TheVariants.{Memory, Store}
use Rattle.book_model.specs.declared.naming.Naming.{Ghosts}
use Rattle.book_model.specs.declared.note.Share.{Share}
use Rattle.book_model.specs.declared.note.Stop.{Stop}
use Rattle.book_model.specs.Journal.{AdoptionOf, ChoiceOf, CloseOf, CreditOf, Entry, Note, Place}
use Rattle.book_model.specs.Journal.{Reading, ReplacementOf, Ruled as RuledAt, TariffOf, with_entry}
use Rattle.book_model.specs.Words.{AdoptionAsked, Answers, Book, ChoiceAsked, CloseAsked}
use Rattle.book_model.specs.Words.{CreditAsked}
use Rattle.book_model.specs.Words.{CreditGiven, Event, IsBookCall, Naming, PeriodClosed}
use Rattle.book_model.specs.Words.{RecordChosen}
use Rattle.book_model.specs.Words.{RecordKept, ReplacementAsked, RulingAsked, RulingGiven}
use Rattle.book_model.specs.Words.{SecondRuleAdopted, TariffAccepted, TariffAsked, TariffFault}
use Rattle.book_model.specs.Words.{TariffReplaced, Terms, WithholdingAsked, WorkWithheld}
use Rattle.book_model.specs.Words.{accept_answer, accept_event, accept_outcome, adopt_answer}
use Rattle.book_model.specs.Words.{after_all}
use Rattle.book_model.specs.Words.{after_any, chosen_answer, close_answer, credit_answer, if_done}
use Rattle.book_model.specs.Words.{keep}
use Rattle.book_model.specs.Words.{note_shown, open_by, reading_shown, record_named}
use Rattle.book_model.specs.Words.{replacing_answer}
use Rattle.book_model.specs.Words.{rule_outcome, tariff_answer, terms_in, told, told_by, told_end}
use Rattle.book_model.specs.Words.{withheld_answer}
use Rattle.book_core.specs.Words.{AcceptsOf, IsTransition, TakesOf, Transition, first_of}
use Rattle.book_core.specs.Words.{in_memory, is_store, listed}
use Rattle.book_core.specs.Calls.{IsCall}
use Rattle.book_core.proofs.OpenAnswers.{accept_open, ruling_open}
use Rattle.book_core.proofs.RulingLemmas.{meant_by, replaced_by, said_by, withheld_by}
use Rattle.book_core.proofs.SubmissionLemmas.{accepts_one, none_told}
use Rattle.plain_ledger.specs.Journals.{entries_by, entries_in, events_told, first_day}
use Rattle.plain_ledger.specs.Journals.{place_asked, said_after}
use Rattle.plain_ledger.specs.Journals.{said_from}
use Rattle.plain_ledger.specs.declared.journal.Said.{Said}
use Rattle.plain_ledger.specs.declared.ledger.PlainLedger.{PlainLedger}
use Rattle.plain_ledger.specs.LedgerBook.{after_record, after_ruling, entries_ruled, ledger_book}
use Rattle.plain_ledger.specs.LedgerBook.{seen_in, with_entries}
use Rattle.plain_ledger.specs.PlainBook.{IsPlainCall, book_in, naming_in}
use Rattle.plain_ledger.proofs.PlainCallLemmas.{call_in_memory, ledger_call}

-- ---- what calls said

-- what one more call said comes last
pub said_more : (entries : List Entry) (before : List Said) (said : Said)
    → said_from entries (before ++ said ∷ []) ≡ said_after said (said_from entries before)
said_more entries [] said = refl
said_more entries (one ∷ before) said = said_more (said_after one entries) before said

-- where none said something, there is nothing
pub none_said : {X : Type 0} (said : List X) (n : ℕ) → n ≡ length said → (n == 0) ≡ true → said ≡ []
none_said [] n long is = refl
none_said (one ∷ later) n long is =
    let zero = eqb-true n 0 is in
    absurd (omega (arith, long, zero))

-- ---- a ruling with its note

-- a ruling is answered as it is without a note, whatever the journal
same_answer : (naming : Naming) (said : Option Note) (asked : RulingAsked) (book : Book)
    (entries : List Entry)
    → (rule_outcome naming said asked (with_entries book entries)).answer
    ≡ (rule_outcome naming None asked book).answer
same_answer naming said (TariffAsked text) book entries = refl
same_answer naming said (CloseAsked period through) book entries = refl
same_answer naming said (ChoiceAsked name) book entries = refl
same_answer naming said (AdoptionAsked rule) book entries = refl
same_answer naming said (ReplacementAsked text) book entries = refl
same_answer naming said (WithholdingAsked name) book entries = refl
same_answer naming said (CreditAsked period centre amount reason) book entries = refl

-- the book after a ruling by its answer, where it is known what it leaves if it is done
by_answer : (plain noted : Option Event) (said : Option Note) (asked : RulingAsked) (book : Book)
    (entries : List Entry) (answer : Result Ruled LedgerFault) (ruled : Ruled) → answer ≡ Ok ruled
    → (answer ≡ Ok Done → after_any noted (with_entries book entries)
    ≡ with_entries (after_any plain book) (entries_ruled said asked book.rulings entries))
    → after_any (if_done noted answer) (with_entries book entries)
    ≡ with_entries (after_any (if_done plain answer) book)
    (after_ruling said asked book.rulings (Ok ruled) entries)
by_answer plain noted said asked book entries (Ok Done) Done is made = made refl
by_answer plain noted said asked book entries (Ok Done) Already is made = cc
by_answer plain noted said asked book entries (Ok Already) Done is made = cc
by_answer plain noted said asked book entries (Ok Already) Already is made = refl
by_answer plain noted said asked book entries (Err fault) ruled is made = cc

-- a tariff, by what was read of its text
tariff_made : (said : Option Note) (text : List ℕ) (read : Result Terms TariffFault) (book : Book)
    (entries : List Entry) → tariff_answer book text read ≡ Ok Done
    → after_any (said_by said text read) (with_entries book entries)
    ≡ with_entries (after_any (said_by None text read) book)
    (with_entry said (RuledAt (TariffOf (first_day read))) entries)
tariff_made said text (Ok terms) book entries done = refl
tariff_made said text (Err fault) book entries done = cc

replacement_made : (said : Option Note) (text : List ℕ) (read : Result Terms TariffFault)
    (book : Book) (entries : List Entry) → replacing_answer book text read ≡ Ok Done
    → after_any (replaced_by said text read) (with_entries book entries)
    ≡ with_entries (after_any (replaced_by None text read) book)
    (with_entry said (RuledAt (ReplacementOf (length book.rulings.replaced + 1))) entries)
replacement_made said text (Ok terms) book entries done = refl
replacement_made said text (Err fault) book entries done = cc

-- a choice, by the record that is meant
choice_made : (said : Option Note) (meant : Option (List ℕ)) (book : Book) (entries : List Entry)
    → chosen_answer book meant ≡ Ok Done
    → after_any (meant_by said meant) (with_entries book entries)
    ≡ with_entries (after_any (meant_by None meant) book)
    (with_entry said (RuledAt (ChoiceOf (length book.rulings.choices + 1))) entries)
choice_made said None book entries done = cc
choice_made said (Some bytes) book entries done = refl

withholding_made : (said : Option Note) (meant : Option (List ℕ)) (book : Book)
    (entries : List Entry) → withheld_answer book meant ≡ Ok Done
    → after_any (withheld_by said meant) (with_entries book entries)
    ≡ with_entries (after_any (withheld_by None meant) book)
    (with_entry said (RuledAt (ChoiceOf (length book.rulings.choices + 1))) entries)
withholding_made said None book entries done = cc
withholding_made said (Some bytes) book entries done = refl

-- any ruling that was answered
ruled_made : (naming : Naming) (said : Option Note) (asked : RulingAsked) (book : Book)
    (entries : List Entry) (ruled : Ruled) → (rule_outcome naming None asked book).answer ≡ Ok ruled
    → after_any (rule_outcome naming said asked (with_entries book entries)).event
    (with_entries book entries)
    ≡ with_entries (after_any (rule_outcome naming None asked book).event book)
    (after_ruling said asked book.rulings (Ok ruled) entries)
ruled_made naming said (TariffAsked text) book entries ruled is =
    by_answer (said_by None text (terms_in text)) (said_by said text (terms_in text)) said
    (TariffAsked text) book entries (tariff_answer book text (terms_in text)) ruled is
    (tariff_made said text (terms_in text) book entries)
ruled_made naming said (CloseAsked period through) book entries ruled is =
    by_answer (Some (PeriodClosed None through)) (Some (PeriodClosed said through)) said
    (CloseAsked period through) book entries (close_answer book.rulings period through) ruled is
    (λ done. refl)
ruled_made naming said (ChoiceAsked name) book entries ruled is =
    let meant = record_named naming book.held name in
    by_answer (meant_by None meant) (meant_by said meant) said (ChoiceAsked name) book entries
    (chosen_answer book meant) ruled is (choice_made said meant book entries)
ruled_made naming said (AdoptionAsked rule) book entries ruled is =
    by_answer (Some (RulingGiven None SecondRuleAdopted))
    (Some (RulingGiven said SecondRuleAdopted)) said (AdoptionAsked rule) book entries
    (adopt_answer book.rulings rule) ruled is (λ done. refl)
ruled_made naming said (ReplacementAsked text) book entries ruled is =
    by_answer (replaced_by None text (terms_in text)) (replaced_by said text (terms_in text)) said
    (ReplacementAsked text) book entries (replacing_answer book text (terms_in text)) ruled is
    (replacement_made said text (terms_in text) book entries)
ruled_made naming said (WithholdingAsked name) book entries ruled is =
    let meant = record_named naming book.held name in
    by_answer (withheld_by None meant) (withheld_by said meant) said (WithholdingAsked name) book
    entries (withheld_answer book meant) ruled is (withholding_made said meant book entries)
ruled_made naming said (CreditAsked period centre amount reason) book entries ruled is =
    by_answer (Some (RulingGiven None (CreditGiven centre amount reason)))
    (Some (RulingGiven said (CreditGiven centre amount reason))) said
    (CreditAsked period centre amount reason) book entries
    (credit_answer book.rulings period centre amount reason) ruled is (λ done. refl)

-- So a ruling that is made without a note, with its entry beside it, is made with the note.
pub ruled_call : (naming : Naming) (said : Option Note) (asked : RulingAsked) (old new : Book)
    (entries later : List Entry) (result : Result Ruled LedgerFault)
    → IsBookCall (λ (value : Ruled). value) old new result (rule_outcome naming None asked)
    → later ≡ after_ruling said asked old.rulings result entries
    → IsBookCall (λ (value : Ruled). value) (with_entries old entries) (with_entries new later)
    result (rule_outcome naming said asked)
ruled_call naming said asked old new entries later (Ok ruled) call is = record {
  answer = same_answer naming said asked old entries ∙ call.answer;
  book = (λ i. with_entries (call.book i) (is i))
      ∙ sym (ruled_made naming said asked old entries ruled call.answer);
}
ruled_call naming said asked old new entries later (Err Memory) call is =
    record { answer = tt; book = λ i. with_entries (call.book i) (is i) }
ruled_call naming said asked old new entries later (Err fault) call is = record {
  answer = same_answer naming said asked old entries ∙ call.answer;
  book = λ i. with_entries (call.book i) (is i);
}

module _ {N : Type 0} {names : Ghosts N} where
  -- as a call of the ledger
  pub entered_call : (old new : PlainLedger N names) (said : Option Note) {given : RulingAsked}
      (asked : RulingAsked) → given ≡ asked → (result : Result Ruled LedgerFault)
      → IsPlainCall (λ (value : Ruled). value) old.books new.books result
      (rule_outcome (names.name_of (naming_in old.books)) None given)
      → entries_in new.journal
      ≡ after_ruling said given (book_in old.books).rulings result (entries_in old.journal)
      → IsCall (λ (value : Ruled). value) (seen_in old) (seen_in new) result
      (rule_outcome (names.name_of (naming_in old.books)) said asked)
  entered_call old new said {given} asked same result books told =
      let naming = names.name_of (naming_in old.books) in
      subst (λ (asked : RulingAsked). IsCall (λ (value : Ruled). value) (seen_in old) (seen_in new)
      result (rule_outcome naming said asked)) same
      (ledger_call (λ (value : Ruled). value) old new result (rule_outcome naming said given)
      (ruling_open naming said (ledger_book old) given) books.naming
      (ruled_call naming said given (book_in old.books) (book_in new.books)
      (entries_in old.journal) (entries_in new.journal) result books.call told))

-- ---- a record with what its import says

-- what an import says with a record that is kept changes the journal alone
told_with : (note : Note) (begun : Bool) (reading : Reading) (ending : Option Stop) (whole : Bool)
    (bytes : List ℕ) (book : Book) (entries : List Entry)
    → after_all (told_end ending whole (told note begun reading (RecordKept bytes ∷ [])))
    (with_entries book entries)
    ≡ with_entries (keep bytes book)
    (entries_by (told_end ending whole (told note begun reading (RecordKept bytes ∷ []))) entries)
told_with note true reading None whole bytes book entries = refl
told_with note true reading (Some stop) true bytes book entries = refl
told_with note true reading (Some stop) false bytes book entries = refl
told_with note false reading None whole bytes book entries = refl
told_with note false reading (Some stop) true bytes book entries = refl
told_with note false reading (Some stop) false bytes book entries = refl

kept_with : (import : Option Share) (whole : Bool) (bytes : List ℕ) (book : Book)
    (entries : List Entry)
    → after_all (events_told import whole bytes) (with_entries book entries)
    ≡ with_entries (keep bytes book) (entries_by (events_told import whole bytes) entries)
kept_with None whole bytes book entries = refl
kept_with (Some share) whole bytes book entries =
    told_with (note_shown share.note) share.begun (reading_shown share.reading) share.ending whole
    bytes book entries

-- what is left of a record that was answered so, and of what its import says
left_with : (import : Option Share) (whole : Bool) (bytes : List ℕ) (old new : Book)
    (entries later : List Entry) (accepted : Accepted)
    → new ≡ after_any (accept_event bytes (Ok accepted)) old
    → later ≡ after_record import whole bytes (Ok accepted) entries
    → with_entries new later
    ≡ after_all (told_by import whole (accepted ∷ []) (listed (accept_event bytes (Ok accepted))))
    (with_entries old entries)
left_with import whole bytes old new entries later Kept made is =
    (λ i. with_entries (made i) (is i)) ∙ sym (kept_with import whole bytes old entries)
left_with import whole bytes old new entries later Known made is =
    (λ i. with_entries (made i) (is i))
    ∙ ap (λ events. after_all events (with_entries old entries))
    (sym (none_told import whole (Known ∷ [])))
left_with import whole bytes old new entries later Unpriced made is =
    (λ i. with_entries (made i) (is i))
    ∙ ap (λ events. after_all events (with_entries old entries))
    (sym (none_told import whole (Unpriced ∷ [])))

-- what a record made, by its answer
accepted_made : (naming : Naming) (bytes : List ℕ) (old new : Book) (accepted : Accepted)
    → IsBookCall (λ (value : Accepted). value) old new (Ok accepted) (accept_outcome naming bytes)
    → new ≡ after_any (accept_event bytes (Ok accepted)) old
accepted_made naming bytes old new accepted call =
    call.book ∙ ap (λ answer. after_any (accept_event bytes answer) old) call.answer

-- the book after one event, or none
after_one : (event : Option Event) (book : Book)
    → after_all (listed event) book ≡ after_any event book
after_one None book = refl
after_one (Some event) book = refl

-- So a record that is kept with no word of an import is kept in the journal too.
pub accepted_call : (naming : Naming) (bytes : List ℕ) (old new : Book)
    (entries later : List Entry) (result : Result Accepted LedgerFault)
    → IsBookCall (λ (value : Accepted). value) old new result (accept_outcome naming bytes)
    → later ≡ after_record None false bytes result entries
    → IsBookCall (λ (value : Accepted). value) (with_entries old entries) (with_entries new later)
    result (accept_outcome naming bytes)
accepted_call naming bytes old new entries later (Ok accepted) call is = record {
  answer = call.answer;
  book = left_with None false bytes old new entries later accepted
      (accepted_made naming bytes old new accepted call) is
      ∙ after_one (accept_event bytes (Ok accepted)) (with_entries old entries)
      ∙ ap (λ answer. after_any (accept_event bytes answer) (with_entries old entries))
      (sym call.answer);
}
accepted_call naming bytes old new entries later (Err Memory) call is =
    record { answer = tt; book = λ i. with_entries (call.book i) (is i) }
accepted_call naming bytes old new entries later (Err fault) call is =
    record { answer = call.answer; book = λ i. with_entries (call.book i) (is i) }

-- ---- a change of the books that takes one record

-- work of a ledger in memory, by the events that it makes
pub work_in_memory : (naming : Naming) (old new : Book) (Made : Transition) (events : List Event)
    → Made false old events false → new ≡ after_all events old
    → IsTransition (in_memory naming old) (in_memory naming new) Made
work_in_memory naming old new Made events made leads = record {
  naming = refl;
  honest = λ honest. tt;
  books = λ honest books. tt;
  moves = λ honest books book stands. record {
    before = old;
    events = events;
    stood = refl;
    made = made;
    leads = stands ∙ leads;
  };
  alone = λ shut. absurd (true≢false (sym shut));
}

module _ (naming : Naming) (import : Option Share) (records : List (List ℕ)) (whole : Bool)
    (bytes : List ℕ) (old new : Book) (entries later : List Entry) where
  abbrev before : Book
  before = with_entries old entries

  -- the first of the records was answered
  pub first_taken : (accepted : Accepted) → 0 < length records → first_of records ≡ bytes
      → whole ≡ (1 == length records)
      → IsBookCall (λ (value : Accepted). value) old new (Ok accepted) (accept_outcome naming bytes)
      → later ≡ after_record import whole bytes (Ok accepted) entries
      → IsTransition (in_memory naming before) (in_memory naming (with_entries new later))
      (AcceptsOf naming import records (accepted ∷ []))
  first_taken accepted some first is_whole call is =
      let answer : accept_answer naming before (first_of records) ≡ Ok accepted =
      ap (accept_answer naming old) first ∙ call.answer in
      let kept : List Event =
      listed (accept_event (first_of records) (accept_answer naming before (first_of records))) in
      work_in_memory naming before (with_entries new later)
      (AcceptsOf naming import records (accepted ∷ []))
      (told_by import (1 == length records) (accepted ∷ []) kept)
      (record {
        kept = kept;
        accepts = accepts_one naming records accepted some false before kept false (record {
          makes = (answer, refl);
          reopens = record { reopen = refl; store = refl };
        });
        told = refl;
      })
      (left_with import whole bytes old new entries later accepted
      (accepted_made naming bytes old new accepted call) is
      ∙ (λ i. after_all (told_by import (is_whole i) (accepted ∷ [])
      (listed (accept_event (sym first i) (sym answer i)))) before))

  -- the first of the records was refused
  pub first_refused : (fault : LedgerFault) → first_of records ≡ bytes
      → IsBookCall (λ (value : Accepted). value) old new (Err fault) (accept_outcome naming bytes)
      → later ≡ after_record import whole bytes (Err fault) entries
      → IsTransition (in_memory naming before) (in_memory naming (with_entries new later))
      (TakesOf naming import records (Err fault))
  first_refused Store first call is =
      absurd (true≢false (sym (ap is_store call.answer) ∙ (accept_open naming old bytes).stored))
  first_refused fault first call is =
      (call_in_memory (λ (accepted : Accepted). accepted) naming before (with_entries new later)
      (Err fault) (accept_outcome naming (first_of records))
      (accept_open naming before (first_of records))
      (subst (λ (bytes : List ℕ). Answers (λ (accepted : Accepted). accepted) (Err fault)
      (accept_answer naming old bytes)) (sym first) call.answer)
      (λ i. with_entries (call.book i) (is i))).work
