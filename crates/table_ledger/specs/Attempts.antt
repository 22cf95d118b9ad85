-- How a call that was tried on the store is answered.
use Rattle.std.specs.Prelude.{◌≡◌, ◌⊎◌, Bool, true, IsTrue, Result, Ok, Err}
use Rattle.sqlite_trees.specs.View.{View, IsClean}
use Rattle.sqlite_trees.specs.declared.error.StoreError.{StoreError}
use Rattle.book_model.specs.declared.fault.LedgerFault.{LedgerFault}
use Rattle.book_model.specs.declared.fault.LedgerFault.TheVariants.{Memory, Store}
use Rattle.book_model.specs.Words.{Book}
use Rattle.sqlite_trees.specs.declared.store.Store.{Ghosts}
use Rattle.tree_tables.specs.States.{Survives, state}
use Rattle.tree_tables.specs.Steps.{KeepsLastCommit}
use Rattle.table_ledger.specs.Commits.{IsAtRest}
use Rattle.table_ledger.specs.Ready.{Remembers}
use Rattle.table_ledger.specs.declared.summary.Summary.{Summary}

-- the store refused: its last commit stays, and the ledger remembers the same book
pub record IsRefused (summary : Summary) (old new : View) (book : Book) : Type 0 where
  pub stands : KeepsLastCommit old new
  pub remembers : Remembers summary book

-- the last commit is seen again
pub record IsRolledBack (old new : View) : Type 0 where
  pub rest : IsAtRest new
  pub was_open : IsTrue old.is_open
  pub committed : new.committed ≡ old.committed

-- what becomes of a call that was tried: its answer; or out of memory, if the store still serves
-- and its last commit is seen again; or a fault of the store
abbrev pub Ends : {V : Type 0} → Result V LedgerFault → Bool → Bool → Type 0 → Type 0
    → Result (Result V LedgerFault) StoreError → Type 0
Ends result was is Same Back (Ok answer) = (result ≡ answer) × (is ≡ was) × Same
Ends result was is Same Back (Err error) =
    ((result ≡ Err Memory) × (is ≡ was) × Back) ⊎ ((result ≡ Err Store) × (is ≡ true))

-- A call that was tried is settled.
pub record Finishes {S V : Type 0} (ghosts : Ghosts S) (old new : S) (was is : Bool)
    (tried : Result (Result V LedgerFault) StoreError) (result : Result V LedgerFault) : Type 0 where
  pub survives : Survives (state ghosts old) (state ghosts new) (λ trees. ⊥)
  pub ends : Ends result was is (new ≡ old)
      (IsClean (ghosts.view new) → IsRolledBack (ghosts.view old) (ghosts.view new)) tried
