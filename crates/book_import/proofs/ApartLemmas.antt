-- What records come to does not depend on the journal of the books.
use Rattle.std.proofs.Common.{◌≡◌, ◌∙◌, ℕ, Bool, true, false, List, [], ◌∷◌, ◌++◌, refl, sym, ap}
use Rattle.std.proofs.Common.{subst, take, Result, Ok, Err, Option, Some, None}
use Rattle.smf_type30.specs.declared.record_class.Class.{Class}
use Rattle.smf_type30.specs.declared.record_class.Class.TheVariants.{Usage}
use Rattle.book_model.specs.declared.answer.Accepted.{Accepted}
use Rattle.book_model.specs.declared.fault.LedgerFault.{LedgerFault}
use Rattle.book_model.specs.declared.fault.LedgerFault.TheVariants.{Memory, Store}
use Rattle.book_model.specs.declared.note.Stop.{Stop}
use Rattle.book_model.specs.declared.note.Stop.TheVariants.{Ledger}
use Rattle.book_model.specs.JournalLaws.{unjournaled, without_notes}
use Rattle.book_model.specs.Words.{Book, Event, Naming, Outcome, accept_outcome, after_all}
use Rattle.book_model.specs.Words.{after_any, class_of}
use Rattle.book_model.proofs.JournalLemmas.{journal_stands_apart}
use Rattle.book_core.specs.Calls.{listed}
use Rattle.book_import.specs.declared.receipt.Receipt.{Receipt}
use Rattle.book_import.specs.Receipts.{count_accepted, count_class}
use Rattle.book_import.specs.Handled.{Answering, Imported, after_accept, after_answer, answers_of}
use Rattle.book_import.specs.Handled.{continue_with, handle, handle_all, handle_by}
use Rattle.book_import.specs.Handled.{nothing_imported}
use Rattle.book_import.specs.Imports.{GivesReceipt, Handles, out_of_memory, store_failed, whole}

-- the same so far, but for the journal of the books
pub record AreApart (one other : Imported) : Type 0 where
  pub receipt : one.receipt ≡ other.receipt
  pub events : one.events ≡ other.events
  pub book : unjournaled one.book ≡ unjournaled other.book

-- so it is after a record; or that was refused alike
abbrev BothApart : Result Imported LedgerFault → Result Imported LedgerFault → Type 0
BothApart (Ok one) (Ok other) = AreApart one other
BothApart (Err one) (Err other) = one ≡ other
BothApart one other = ⊥

-- after an event, or none
event_apart : (event : Option Event) (one other : Book) → unjournaled one ≡ unjournaled other
    → unjournaled (after_any event one) ≡ unjournaled (after_any event other)
event_apart None one other same = same
event_apart (Some event) one other same =
    journal_stands_apart one (event ∷ [])
    ∙ ap (after_all (without_notes (event ∷ []))) same
    ∙ sym (journal_stands_apart other (event ∷ []))

answered_apart : (one other : Imported) (event : Option Event) (answer : Result Accepted LedgerFault)
    → AreApart one other → BothApart (after_answer one event answer) (after_answer other event answer)
answered_apart one other event (Ok accepted) same = record {
  receipt = ap (count_accepted accepted) same.receipt;
  events = ap (λ events. listed event ++ events) same.events;
  book = event_apart event one.book other.book same.book;
}
answered_apart one other event (Err fault) same = refl

-- answers that read no journal
abbrev pub ReadNone : Answering → Type 0
ReadNone answers = (bytes : List ℕ) (one other : Book) → unjournaled one ≡ unjournaled other
    → answers bytes one ≡ answers bytes other

-- are those of open books, and of books that are to be reopened
pub reads_none : (was : Bool) (naming : Naming) → ReadNone (answers_of was naming)
reads_none false naming bytes one other same =
    let read : accept_outcome naming bytes (unjournaled one)
    ≡ accept_outcome naming bytes (unjournaled other) = ap (accept_outcome naming bytes) same in
    read
reads_none true naming bytes one other same = refl

-- what comes after a record then leaves the same
goes_apart : (later : Imported → Imported) (one other : Imported)
    (first second : Result Imported LedgerFault) → AreApart one other
    → ((next after : Imported) → AreApart next after → AreApart (later next) (later after))
    → BothApart first second
    → AreApart (continue_with later one first) (continue_with later other second)
goes_apart later one other (Ok next) (Ok after) same rest alike = rest next after alike
goes_apart later one other (Err fault) (Err again) same rest alike = record {
  receipt = (λ i. record (same.receipt i) { stop = Ledger (alike i) });
  events = same.events;
  book = same.book;
}
goes_apart later one other (Ok next) (Err again) same rest alike = absurd alike
goes_apart later one other (Err fault) (Ok after) same rest alike = absurd alike

module _ (answers : Answering) (none : ReadNone answers) where
  one_apart : (bytes : List ℕ) (class : Class) (one other : Imported) → AreApart one other
      → BothApart (handle_by answers bytes one class) (handle_by answers bytes other class)
  one_apart bytes Usage one other same =
      let outcome : Outcome Accepted = answers bytes one.book in
      subst (λ (outcome : Outcome Accepted). BothApart (after_accept one (answers bytes one.book))
      (after_accept other outcome)) (none bytes one.book other.book same.book)
      (answered_apart one other outcome.event outcome.answer same)
  one_apart bytes class one other same = record {
    receipt = ap (count_class class) same.receipt;
    events = same.events;
    book = same.book;
  }

  -- and after many
  pub all_apart : (stop : Stop) (records : List (List ℕ)) (one other : Imported)
      → AreApart one other
      → AreApart (handle_all answers stop records one) (handle_all answers stop records other)
  all_apart stop [] one other same = record {
    receipt = ap (λ (receipt : Receipt). record receipt { stop = stop }) same.receipt;
    events = same.events;
    book = same.book;
  }
  all_apart stop (bytes ∷ rest) one other same =
      goes_apart (handle_all answers stop rest) one other (handle answers bytes one)
      (handle answers bytes other) same
      (λ next after alike. all_apart stop rest next after alike)
      (one_apart bytes (class_of bytes) one other same)

  -- from its start
  pub from_alike : (stop : Stop) (records : List (List ℕ)) (one other : Book)
      → unjournaled one ≡ unjournaled other
      → AreApart (handle_all answers stop records (nothing_imported one))
      (handle_all answers stop records (nothing_imported other))
  from_alike stop records one other same =
      all_apart stop records (nothing_imported one) (nothing_imported other)
      (record { receipt = refl; events = refl; book = same })

  pub from_apart : (stop : Stop) (records : List (List ℕ)) (before : Book)
      → AreApart (handle_all answers stop records (nothing_imported before))
      (handle_all answers stop records (nothing_imported (unjournaled before)))
  from_apart stop records before = from_alike stop records before (unjournaled before) refl

  gives_alike : (stop : Stop) (records : List (List ℕ)) (one other : Book) (told : Receipt)
      (events : List Event) → unjournaled one ≡ unjournaled other
      → GivesReceipt (handle_all answers stop records (nothing_imported other)) told events
      → GivesReceipt (handle_all answers stop records (nothing_imported one)) told events
  gives_alike stop records one other told events same gives =
      let alike = from_alike stop records one other same in
      record { receipt = alike.receipt ∙ gives.receipt; events = alike.events ∙ gives.events }

  pub gives_apart : (stop : Stop) (records : List (List ℕ)) (before : Book) (told : Receipt)
      (events : List Event)
      → GivesReceipt (handle_all answers stop records (nothing_imported (unjournaled before))) told
      events
      → GivesReceipt (handle_all answers stop records (nothing_imported before)) told events
  gives_apart stop records before told events gives =
      gives_alike stop records before (unjournaled before) told events refl gives

-- so records were handled by books as by others that differ in their journals alone,
pub handles_alike : (naming : Naming) (stop : Stop) (records : List (List ℕ)) (told : Receipt)
    (was : Bool) (one other : Book) (events : List Event) (is : Bool)
    → unjournaled one ≡ unjournaled other
    → Handles naming stop records told was other events is
    → Handles naming stop records told was one events is
handles_alike naming stop records told was one other events is alike (whole same gives) =
    whole same
    (gives_alike (answers_of was naming) (reads_none was naming) stop records one other told events
    alike gives)
handles_alike naming stop records told was one other events is alike
    (out_of_memory count same gives) =
    out_of_memory count same
    (gives_alike (answers_of was naming) (reads_none was naming) (Ledger Memory) (take count records)
    one other told events alike gives)
handles_alike naming stop records told was one other events is alike
    (store_failed count kept open_before reopen within either stopped so made) =
    let answers = accept_outcome naming in
    let first = from_alike answers (reads_none false naming) (Ledger Store) (take count records) one
    other alike in
    let all = from_alike answers (reads_none false naming) (Ledger Store) (take kept records) one other
    alike in
    store_failed count kept open_before reopen within either stopped (first.receipt ∙ so)
    (all.events ∙ made)

-- and by those without a journal
pub handles_apart : (naming : Naming) (stop : Stop) (records : List (List ℕ)) (told : Receipt)
    (was : Bool) (before : Book) (events : List Event) (is : Bool)
    → Handles naming stop records told was (unjournaled before) events is
    → Handles naming stop records told was before events is
handles_apart naming stop records told was before events is handled =
    handles_alike naming stop records told was before (unjournaled before) events is refl handled
