-- The book of an import is the one that its events leave.
use Rattle.std.proofs.Common.{◌≡◌, ◌∙◌, ℕ, List, [], ◌∷◌, refl, ap, Result, Ok, Err, Option}
use Rattle.std.specs.Prelude.{IfOk}
use Rattle.smf_type30.specs.declared.record_class.Class.{Class}
use Rattle.smf_type30.specs.declared.record_class.Class.TheVariants.{Usage}
use Rattle.book_model.specs.Words.{class_of, Book, Event, after_any, after_all, accept_outcome}
use Rattle.book_model.specs.Words.{Naming}
use Rattle.book_model.specs.declared.answer.Accepted.{Accepted}
use Rattle.book_model.specs.declared.fault.LedgerFault.{LedgerFault}
use Rattle.book_model.specs.declared.note.Stop.{Stop}
use Rattle.book_import.specs.Handled.{Imported, Answering, after_answer, handle_by, handle, continue_with}
use Rattle.book_import.specs.Handled.{handle_all, nothing_imported}
use Rattle.book_import.specs.Laws.{import_of_records, book_after_import}
use Rattle.book_import.proofs.ImportLemmas.{after_listed}

-- the book so far is the one that the events so far leave
abbrev pub IsLeft : Book → Imported → Type 0
IsLeft before so_far = so_far.book ≡ after_all so_far.events before

-- so is the book after a usage record that was answered so
answer_left : (before : Book) (so_far : Imported) (event : Option Event)
    (answer : Result Accepted LedgerFault) → IsLeft before so_far
    → IfOk (after_answer so_far event answer) (IsLeft before)
answer_left before so_far event (Ok accepted) left =
    ap (after_any event) left ∙ after_listed event so_far.events before
answer_left before so_far event (Err fault) left = tt

-- after a record, by its class
one_left : (answers : Answering) (before : Book) (bytes : List ℕ) (so_far : Imported)
    (class : Class) → IsLeft before so_far
    → IfOk (handle_by answers bytes so_far class) (IsLeft before)
one_left answers before bytes so_far Usage left =
    answer_left before so_far (answers bytes so_far.book).event (answers bytes so_far.book).answer
    left
one_left answers before bytes so_far class left = left

-- and after many
pub all_left : (answers : Answering) (stop : Stop) (before : Book) (records : List (List ℕ))
    (so_far : Imported) → IsLeft before so_far
    → IsLeft before (handle_all answers stop records so_far)
all_left answers stop before [] so_far left = left
all_left answers stop before (bytes ∷ rest) so_far left =
    let later : Imported → Imported = handle_all answers stop rest in
    elim (handle answers bytes so_far) as (λ handled.
    IfOk handled (IsLeft before) → IsLeft before (continue_with later so_far handled)) [
      | Ok next ↦ λ more. all_left answers stop before rest next more
      | Err fault ↦ λ none. left
    ] (one_left answers before bytes so_far (class_of bytes) left)

-- for an import into open books
pub left_is : (naming : Naming) (before : Book) (stop : Stop) (records : List (List ℕ))
    → (import_of_records naming before stop records).book ≡ book_after_import naming before stop records
left_is naming before stop records =
    all_left (accept_outcome naming) stop before records (nothing_imported before) refl
