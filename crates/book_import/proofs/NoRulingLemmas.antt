-- An import gives no ruling: its events are records that were kept.
use Rattle.std.proofs.Common.{◌≡◌, ℕ, Bool, true, false, List, [], ◌∷◌, ◌++◌, refl, subst, take}
use Rattle.std.proofs.Common.{Result, Ok, Err}
use Rattle.smf_type30.specs.declared.record_class.Class.{Class}
use Rattle.smf_type30.specs.declared.record_class.Class.TheVariants.{Usage}
use Rattle.book_model.specs.Words.{class_of, Naming, Book, accept_answer, Event, RecordKept}
use Rattle.book_model.specs.Words.{after_all, accept_event}
use Rattle.book_model.specs.declared.answer.Accepted.{Accepted}
use Rattle.book_model.specs.declared.answer.Accepted.TheVariants.{Kept}
use Rattle.book_model.specs.declared.fault.LedgerFault.{LedgerFault}
use Rattle.book_model.specs.declared.fault.LedgerFault.TheVariants.{Memory, Store}
use Rattle.book_core.specs.Calls.{listed}
use Rattle.book_core.proofs.SubmissionLemmas.{AreKept}
use Rattle.book_import.specs.declared.receipt.Receipt.{Receipt}
use Rattle.book_model.specs.declared.note.Stop.{Stop}
use Rattle.book_model.specs.declared.note.Stop.TheVariants.{Ledger}
use Rattle.book_import.specs.Handled.{Imported, answers_of, after_answer, handle_by, handle, continue_with}
use Rattle.book_import.specs.Handled.{handle_all, nothing_imported}
use Rattle.book_import.specs.Imports.{Handles, whole, out_of_memory, store_failed}

-- they leave the rulings as they are
pub rulings_stay : (events : List Event) → AreKept events → (book : Book)
    → (after_all events book).rulings ≡ book.rulings
rulings_stay [] kept book = refl
rulings_stay (RecordKept bytes ∷ older) kept book = rulings_stay older kept book
rulings_stay (event ∷ older) kept book = absurd kept

-- the event of the answer to a record, if it is one, is that it was kept
event_kept : (bytes : List ℕ) (answer : Result Accepted LedgerFault) (older : List Event)
    → AreKept older → AreKept (listed (accept_event bytes answer) ++ older)
event_kept bytes (Ok Kept) older kept = kept
event_kept bytes (Ok accepted) older kept = kept
event_kept bytes (Err fault) older kept = kept

-- what came of one more record
abbrev GoesOn : Result Imported LedgerFault → Type 0
GoesOn (Ok next) = AreKept next.events
GoesOn (Err fault) = Unit {0}

answer_kept : (bytes : List ℕ) (so_far : Imported) (told answer : Result Accepted LedgerFault)
    → AreKept so_far.events
    → GoesOn (after_answer so_far (accept_event bytes told) answer)
answer_kept bytes so_far told (Ok accepted) kept = event_kept bytes told so_far.events kept
answer_kept bytes so_far told (Err fault) kept = tt

usage_kept : (was : Bool) (naming : Naming) (bytes : List ℕ) (so_far : Imported)
    → AreKept so_far.events → GoesOn (handle_by (answers_of was naming) bytes so_far Usage)
usage_kept false naming bytes so_far kept =
    let answer = accept_answer naming so_far.book bytes in
    answer_kept bytes so_far answer answer kept
usage_kept true naming bytes so_far kept = tt

class_kept : (was : Bool) (naming : Naming) (bytes : List ℕ) (so_far : Imported) (class : Class)
    → AreKept so_far.events → GoesOn (handle_by (answers_of was naming) bytes so_far class)
class_kept was naming bytes so_far Usage kept = usage_kept was naming bytes so_far kept
class_kept was naming bytes so_far class kept = kept

-- the same holds for all records
all_kept : (was : Bool) (naming : Naming) (stop : Stop) (records : List (List ℕ))
    (so_far : Imported) → AreKept so_far.events
    → AreKept (handle_all (answers_of was naming) stop records so_far).events
all_kept was naming stop [] so_far kept = kept
all_kept was naming stop (bytes ∷ rest) so_far kept =
    elim (handle (answers_of was naming) bytes so_far) as (λ next. GoesOn next
    → AreKept (continue_with (handle_all (answers_of was naming) stop rest) so_far next).events) [
      | Ok next ↦ λ goes_on. all_kept was naming stop rest next goes_on
      | Err fault ↦ λ goes_on. kept
    ] (class_kept was naming bytes so_far (class_of bytes) kept)

-- the events of an import are records that were kept
pub handles_kept : (naming : Naming) (stop : Stop) (records : List (List ℕ)) (told : Receipt)
    (was : Bool) (before : Book) (events : List Event) (is : Bool)
    → Handles naming stop records told was before events is → AreKept events
handles_kept naming stop records told was before events is (whole same is_told) =
    subst AreKept is_told.events (all_kept was naming stop records (nothing_imported before) tt)
handles_kept naming stop records told was before events is (out_of_memory count same is_told) =
    subst AreKept is_told.events
    (all_kept was naming (Ledger Memory) (take count records) (nothing_imported before) tt)
handles_kept naming stop records told was before events is
    (store_failed count kept opened shut inside either stopped told_is made) =
    subst AreKept made
    (all_kept false naming (Ledger Store) (take kept records) (nothing_imported before) tt)
