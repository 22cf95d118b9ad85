-- Commands from the one on that made the books.
use Rattle.std.proofs.Common.{◌≡◌, ◌∙◌, ℕ, List, [], Option, Result, Ok, Err, ap, sym, Bor}
use Rattle.std.proofs.Common.{inl, inr}
use Rattle.book_model.specs.declared.fault.LedgerFault.{LedgerFault}
use Rattle.named_books.specs.Shelves.{IsMade, Shelf}
use Rattle.named_books.specs.declared.repository.RepositoryFault.{RepositoryFault}
use Rattle.named_books.specs.declared.repository.RepositoryFault.TheVariants.{Busy, Exists, Io}
use Rattle.named_books.specs.declared.repository.RepositoryFault.TheVariants.{Ledger, Unseen}
use Rattle.command_line.specs.declared.request.BookRequest.TheVariants.{Init}
use Rattle.command_line.specs.declared.request.NoteWords.{NoteWords}
use Rattle.command_line.specs.declared.request.Request.TheVariants.{OfBooks}
use Rattle.program_output.specs.Statuses.{ledger_status}
use Rattle.program_output.specs.declared.status.Status.{Status}
use Rattle.program_output.specs.declared.status.Status.TheVariants.{Done}
use Rattle.without_books.specs.Faults.{fault_status, shelf_end, shelf_fault, status_by, without_log}
use Rattle.without_books.specs.Inputs.{Files}
use Rattle.without_books.specs.declared.ended.Ended.{Ended}
use Rattle.chargectl.specs.Requests.{DoesOrRefuses, UnlessUnnoted, WaitsAndDoes}
use Rattle.book_model.specs.declared.fault.LedgerFault.TheVariants as ledger

-- no fault of a ledger is said to be done
ledger_undone : (fault : LedgerFault) → ledger_status fault ≡ Done → ⊥
ledger_undone ledger.Memory is = cc is
ledger_undone ledger.Store is = cc is
ledger_undone ledger.Reopen is = cc is
ledger_undone ledger.NotBooks is = cc is
ledger_undone ledger.OldForm is = cc is
ledger_undone ledger.NewForm is = cc is
ledger_undone fault is = cc is

-- nor is one of a place
place_undone : (fault : RepositoryFault) → fault_status (shelf_fault fault) ≡ Done → ⊥
place_undone Io is = cc is
place_undone Exists is = cc is
place_undone Busy is = cc is
place_undone Unseen is = cc is
place_undone (Ledger fault) is = ledger_undone fault is

-- books were made, as was said
made_done : (book : List ℕ) (old new : Shelf) (made : Result (Unit {0}) RepositoryFault)
    → IsMade book old new made → status_by (without_log (shelf_end made)) ≡ Done
    → old.is_free book → new.holds book []
made_done book old new (Ok done) it is free = it.made free
made_done book old new (Err fault) it is free = absurd (place_undone fault is)

-- so did a command that was told to, with memory for its note
ran_done : {S : Type 0} (files : Files) (shelf : S → Shelf) (waits : S → ℕ → Type 0) (old new : S)
    (book : List ℕ) (seconds : ℕ) (held holds : Option (List ℕ)) (Failed : Type 0) (ended : Ended)
    → UnlessUnnoted old new held holds ended
    (WaitsAndDoes files shelf waits old new seconds Init book held holds Failed ended)
    → status_by ended ≡ Done → (shelf old).is_free book → (shelf new).holds book []
ran_done files shelf waits old new book seconds held holds Failed ended (inl ran) is free =
    made_done book (shelf ran.waiting) (shelf new) ran.does.made ran.does.done
    (ap status_by (sym ran.does.ends) ∙ is) (ran.same.free book free)
ran_done files shelf waits old new book seconds held holds Failed ended (inr none) is free =
    absurd (place_undone (Ledger ledger.Memory) (ap status_by (sym none.2) ∙ is))

pub begun : {S : Type 0} (files : Files) (shelf : S → Shelf) (waits : S → ℕ → Type 0) (old new : S)
    (book : Bor (List ℕ)) (wait : ℕ) (note : NoteWords) (had held holds : Option (List ℕ))
    (Failed : Type 0) (Says : List (List ℕ) → Type 0) (status : Status)
    → DoesOrRefuses files shelf waits old new (Ok (OfBooks book wait note Init)) had held holds
    Failed
    Says status
    → status ≡ Done → (shelf old).is_free book.now → (shelf new).holds book.now []
begun files shelf waits old new book wait note had held holds Failed Says status it is free =
    ran_done files shelf waits old new book.now wait held holds Failed it.0 it.1
    (sym it.2 ∙ is) free
