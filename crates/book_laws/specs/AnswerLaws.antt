-- Laws of single calls of a ledger: each has one answer, and leaves one book.
use Rattle.std.specs.Prelude.{◌≡◌, ◌≢◌, Result, Ok, Err}
use Rattle.book_model.specs.declared.fault.LedgerFault.{LedgerFault}
use Rattle.book_model.specs.declared.fault.LedgerFault.TheVariants.{Memory, Store}
use Rattle.book_model.specs.Words.{Naming, Book, after_all, Outcome}
use Rattle.book_core.specs.Words.{Seen, IsOpenAt, IsCall, listed}

-- a call of a ledger that was open with this book, on a store that is honest to the end
pub record IsCalled {V A : Type 0} (view : V → A) (outcome : Book → Outcome A) (naming : Naming)
    (start : Book) (old new : Seen) (result : Result V LedgerFault) : Type 0 where
  pub opened : IsOpenAt naming start old
  pub honest : new.is_honest
  pub call : IsCall view old new result outcome

-- A value that is answered is the one that the definitions give for the book.
abbrev pub OneAnswer : {L : Type 0} (V A : Type 0) → (L → Seen) → Type 0
OneAnswer {L} V A seen =
    (view : V → A) (outcome : Book → Outcome A) (naming : Naming) (start : Book)
    (old new : L) (value : V)
    → IsCalled view outcome naming start (seen old) (seen new) (Ok value)
    → (outcome start).answer ≡ Ok (view value)

-- So is a refusal. Out of memory and a fault of the store may be in place of any answer; and
-- that the books are to be reopened is never answered by open ones.
abbrev pub OneRefusal : {L : Type 0} (V A : Type 0) → (L → Seen) → Type 0
OneRefusal {L} V A seen =
    (view : V → A) (outcome : Book → Outcome A) (naming : Naming) (start : Book)
    (old new : L) (fault : LedgerFault) → fault ≢ Memory → fault ≢ Store
    → IsCalled view outcome naming start (seen old) (seen new) (Err fault)
    → (outcome start).answer ≡ Err fault

-- If a value was answered, the ledger is open with the book after the definitions' event, or
-- with the one that it had if there is no event.
abbrev pub OneBook : {L : Type 0} (V A : Type 0) → (L → Seen) → Type 0
OneBook {L} V A seen =
    (view : V → A) (outcome : Book → Outcome A) (naming : Naming) (start : Book)
    (old new : L) (value : V)
    → IsCalled view outcome naming start (seen old) (seen new) (Ok value)
    → IsOpenAt naming (after_all (listed (outcome start).event) start) (seen new)

-- A refusal changes nothing: the ledger is open with the book that it had. After a fault of the
-- store only the next open shows the book.
abbrev pub RefusalChangesNothing : {L : Type 0} (V A : Type 0) → (L → Seen) → Type 0
RefusalChangesNothing {L} V A seen =
    (view : V → A) (outcome : Book → Outcome A) (naming : Naming) (start : Book)
    (old new : L) (fault : LedgerFault) → fault ≢ Store
    → IsCalled view outcome naming start (seen old) (seen new) (Err fault)
    → IsOpenAt naming start (seen new)
