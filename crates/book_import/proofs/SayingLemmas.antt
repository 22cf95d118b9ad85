-- Work on records, with what an import says.
use Rattle.std.proofs.Common.{◌≡◌, ◌∙◌, ℕ, Bool, true, false, List, [], ◌∷◌, ◌++◌, refl, sym, ap}
use Rattle.std.proofs.Common.{subst, Result, Ok, Err, Option, Some, None, inl, inr, append-nil}
use Rattle.std.proofs.Common.{length, ◌==◌}
use Rattle.book_model.specs.declared.answer.Accepted.{Accepted}
use Rattle.book_model.specs.declared.fault.LedgerFault.{LedgerFault}
use Rattle.book_model.specs.declared.fault.LedgerFault.TheVariants.{Memory, Reopen, Store}
use Rattle.book_model.specs.declared.note.Share.{Share}
use Rattle.book_model.specs.declared.note.Stop.{Stop}
use Rattle.book_model.specs.JournalLaws.{unjournaled, without_notes}
use Rattle.book_model.specs.Words.{Book, Event, ImportBegun, ImportEnded, ImportRead, Naming, Note}
use Rattle.book_model.specs.Words.{PeriodClosed, Reading, RecordKept, RulingGiven, accept_answer}
use Rattle.book_model.specs.Words.{accept_outcome, after_all, note_shown, read_with, reading_shown}
use Rattle.book_model.specs.Words.{told, told_by, told_end}
use Rattle.book_model.proofs.JournalLemmas.{journal_stands_apart}
use Rattle.book_core.specs.Calls.{Calls}
use Rattle.book_core.specs.Submissions.{Accepts, AcceptsOf, KeepsFirst, KeepsFirstOf, first_of}
use Rattle.book_core.specs.Transition.{Then, Transition}
use Rattle.book_core.proofs.SubmissionLemmas.{AreKept, all_kept, one_kept}
use Rattle.book_core.proofs.TransitionLemmas.{Implies}
use Rattle.book_import.specs.declared.import_entry.ImportEntry.{ImportEntry}
use Rattle.book_import.specs.declared.receipt.Receipt.{Receipt}
use Rattle.book_import.specs.EntryWork.{said_with}
use Rattle.book_import.specs.Groups.{Asks, AsksOf}
use Rattle.book_import.specs.Pieces.{Saying}

-- ---- the events of records among others

-- those of both parts
pub notes-append : (late early : List Event)
    → without_notes (late ++ early) ≡ without_notes late ++ without_notes early
notes-append [] early = refl
notes-append (RecordKept bytes ∷ late) early =
    ap (λ events. RecordKept bytes ∷ events) (notes-append late early)
notes-append (PeriodClosed said day ∷ late) early =
    ap (λ events. PeriodClosed None day ∷ events) (notes-append late early)
notes-append (RulingGiven said ruling ∷ late) early =
    ap (λ events. RulingGiven None ruling ∷ events) (notes-append late early)
notes-append (ImportBegun note ∷ late) early = notes-append late early
notes-append (ImportRead reading ∷ late) early = notes-append late early
notes-append (ImportEnded ending ∷ late) early = notes-append late early

-- records alone are all of them
pub kept_alone : (events : List Event) → AreKept events → without_notes events ≡ events
kept_alone [] kept = refl
kept_alone (RecordKept bytes ∷ older) kept =
    ap (λ events. RecordKept bytes ∷ events) (kept_alone older kept)
kept_alone (event ∷ older) kept = absurd kept

-- what is said of an import is not of a record,
pub told_alone : (note : Note) (begun : Bool) (reading : Reading) (kept : List Event) → AreKept kept
    → without_notes (told note begun reading kept) ≡ kept
told_alone note begun reading [] are = refl
told_alone note true reading (newest ∷ earlier) are =
    ap without_notes (append-nil (newest ∷ earlier)) ∙ kept_alone (newest ∷ earlier) are
told_alone note false reading (newest ∷ earlier) are =
    notes-append (newest ∷ earlier) (ImportBegun note ∷ [])
    ∙ append-nil (without_notes (newest ∷ earlier))
    ∙ kept_alone (newest ∷ earlier) are

end_alone : (ending : Option Stop) (whole : Bool) (events : List Event)
    → without_notes (told_end ending whole events) ≡ without_notes events
end_alone None whole events = refl
end_alone (Some stop) false events = refl
end_alone (Some stop) true [] = refl
end_alone (Some stop) true (newest ∷ earlier) = refl

pub by_alone : (import : Option Share) (whole : Bool) (answers : List Accepted) (kept : List Event)
    → AreKept kept → without_notes (told_by import whole answers kept) ≡ kept
by_alone None whole answers kept are = kept_alone kept are
by_alone (Some share) whole answers kept are =
    let reading = read_with answers (reading_shown share.reading) in
    end_alone share.ending whole (told (note_shown share.note) share.begun reading kept)
    ∙ told_alone (note_shown share.note) share.begun reading kept are

-- ---- books without a journal

-- answers to records read none
accepts_apart : (naming : Naming) (records : List (List ℕ)) (answers : List Accepted) (was : Bool)
    (before : Book) (kept : List Event) (is : Bool)
    → Accepts naming records answers was before kept is
    → Accepts naming records answers was (unjournaled before) kept is
accepts_apart naming records [] was before kept is accepts =
    record { none = accepts.none; same = accepts.same }
accepts_apart naming [] (answer ∷ later) was before kept is accepts = absurd accepts
accepts_apart naming (bytes ∷ rest) (answer ∷ later) was before kept is accepts =
    let early = subst AreKept (sym accepts.first.makes.1)
    (one_kept bytes (accept_answer naming before bytes)) in
    record {
      between = accepts.between;
      early = accepts.early;
      late = accepts.late;
      first = record { makes = accepts.first.makes; reopens = accepts.first.reopens };
      next = subst (λ book. Accepts naming rest later accepts.between book accepts.late is)
          (journal_stands_apart before accepts.early
          ∙ ap (λ events. after_all events (unjournaled before))
          (kept_alone accepts.early early))
          (accepts_apart naming rest later accepts.between (after_all accepts.early before)
          accepts.late is accepts.next);
      all = accepts.all;
    }

-- so a change took them, whatever was said with it
pub takes_alone : (naming : Naming) (import : Option Share) (records : List (List ℕ))
    (answers : List Accepted) (was : Bool) (before : Book) (events : List Event) (is : Bool)
    → AcceptsOf naming import records answers was before events is
    → Accepts naming records answers was (unjournaled before) (without_notes events) is
takes_alone naming import records answers was before events is of =
    subst (λ made. Accepts naming records answers was (unjournaled before) made is)
    (sym (ap without_notes of.told ∙ by_alone import (length answers == length records) answers
    of.kept
    (all_kept naming records answers was before of.kept is of.accepts)))
    (accepts_apart naming records answers was before of.kept is of.accepts)

keeps_alone : (naming : Naming) (import : Option Share) (records : List (List ℕ)) (was : Bool)
    (before : Book) (events : List Event) (is : Bool)
    → KeepsFirstOf naming import records was before events is
    → KeepsFirst naming records was (unjournaled before) (without_notes events) is
keeps_alone naming import records was before events is keeps = record {
  was_open = keeps.was_open;
  closed = keeps.closed;
  answers = keeps.answers;
  kept = takes_alone naming import records keeps.answers false before events false keeps.kept;
}

-- and a call of its own kept one, or none
call_kept : (naming : Naming) (bytes : List ℕ) (result : Result Accepted LedgerFault) (was : Bool)
    (before : Book) (events : List Event) (is : Bool)
    → Calls (λ (accepted : Accepted). accepted) (accept_outcome naming bytes) result was before events
    is → AreKept events
call_kept naming bytes (Ok accepted) was before events is called =
    subst AreKept (sym called.makes.1) (one_kept bytes (accept_answer naming before bytes))
call_kept naming bytes (Err Memory) was before events is called =
    subst AreKept (sym called.makes) tt
call_kept naming bytes (Err Store) was before events is called =
    elim called.makes [
      | inl none ↦ subst AreKept (sym none) tt
      | inr made ↦
          subst AreKept (sym made) (one_kept bytes (accept_answer naming before bytes))
    ]
call_kept naming bytes (Err Reopen) was before events is called =
    subst AreKept (sym called.makes) tt
call_kept naming bytes (Err fault) was before events is called =
    subst AreKept (sym called.makes.1) tt

call_alone : (naming : Naming) (bytes : List ℕ) (result : Result Accepted LedgerFault) (was : Bool)
    (before : Book) (events : List Event) (is : Bool)
    → Calls (λ (accepted : Accepted). accepted) (accept_outcome naming bytes) result was before events
    is
    → Calls (λ (accepted : Accepted). accepted) (accept_outcome naming bytes) result was
    (unjournaled before) (without_notes events) is
call_alone naming bytes result was before events is called =
    subst (λ made. Calls (λ (accepted : Accepted). accepted) (accept_outcome naming bytes) result was
    (unjournaled before) made is)
    (sym (kept_alone events (call_kept naming bytes result was before events is called)))
    (record { makes = called.makes; reopens = called.reopens })

-- ---- the first of the records that wait was answered

pub asks_alone : (naming : Naming) (entry : ImportEntry) (counts : Receipt) (ending : Option Stop)
    (waiting : List (List ℕ)) (pending : List Accepted) (result : Result Accepted LedgerFault)
    (left : List Accepted) (was : Bool) (before : Book) (events : List Event) (is : Bool)
    → AsksOf naming entry counts ending waiting pending result left was before events is
    → Asks naming waiting pending result left was (unjournaled before) (without_notes events) is
asks_alone naming entry counts ending waiting (answer ∷ later) result left was before events is asks =
    (record { none = ap without_notes asks.0.none; same = asks.0.same }, asks.1, asks.2)
asks_alone naming entry counts ending waiting [] (Ok answer) left was before events is asks =
    takes_alone naming (said_with entry counts ending) waiting (answer ∷ left) was before events is
    asks
asks_alone naming entry counts ending waiting [] (Err Store) left was before events is asks =
    keeps_alone naming (said_with entry counts ending) waiting was before events is asks
asks_alone naming entry counts ending waiting [] (Err fault) left was before events is asks =
    call_alone naming (first_of waiting) (Err fault) was before events is asks

-- ---- such work, and other work

-- and then other work, which does this with records
pub then_alone : (Said : Book → List Event → Type 0) (First Next Alone : Transition)
    → ((was : Bool) (before : Book) (events : List Event) (is : Bool) → Next was before events is
    → Alone was (unjournaled before) (without_notes events) is)
    → (was : Bool) (before : Book) (events : List Event) (is : Bool)
    → Then (Saying Said First) Next was before events is
    → Then First Alone was (unjournaled before) (without_notes events) is
then_alone Said First Next Alone alone was before events is both = record {
  between = both.between;
  early = without_notes both.early;
  late = without_notes both.late;
  first = both.first.records;
  next = subst (λ book. Alone both.between book (without_notes both.late) is)
      (journal_stands_apart before both.early)
      (alone both.between (after_all both.early before) both.late is both.next);
  all = ap without_notes both.all ∙ notes-append both.late both.early;
}

-- other work with records
pub saying_as : (Said : Book → List Event → Type 0) (One Other : Transition) → Implies One Other
    → Implies (Saying Said One) (Saying Said Other)
saying_as Said One Other implies was before events is so = record {
  records = implies was (unjournaled before) (without_notes events) is so.records;
  said = so.said;
}

-- or other words
pub words_as : (Said Other : Book → List Event → Type 0) (Made : Transition)
    → ((before : Book) (events : List Event) → Said before events → Other before events)
    → Implies (Saying Said Made) (Saying Other Made)
words_as Said Other Made implies was before events is so =
    record { records = so.records; said = implies before events so.said }
