-- Looks at the tables, and the commit of what was written.
use Rattle.std.specs.Prelude.{◌≡◌, false, IfErr, IfOk, IsErr, IsErrAnd, IsTrue, OnErr, OnOk}
use Rattle.std.specs.Prelude.{Result, Ok}
use Rattle.sqlite_trees.specs.View.{Commits, IsClean, View}
use Rattle.sqlite_trees.specs.declared.error.StoreError.{StoreError}
use Rattle.sqlite_trees.specs.declared.store.Store.{Ghosts}
use Rattle.table_model.specs.Tables.{Tables}
use Rattle.tree_tables.specs.Holds.{Holds}
use Rattle.tree_tables.specs.States.{State, HasCleanDisk, Survives, state}
use Rattle.tree_tables.specs.Steps.{IsUndone, MayCommit, Sees}

-- the store is open between two transactions
pub record IsAtRest (view : View) : Type 0 where
  pub is_open : IsTrue view.is_open
  pub sound : view.is_broken ≡ false
  pub settled : view.trees ≡ view.committed

-- Looks at the tables were answered, and changed nothing: this is known of the tables.
pub record Saw (old new : State) (Known : Tables → Type 0) : Type 0 where
  pub survives : Survives old new (λ trees. ⊥)
  pub seen : HasCleanDisk new → Sees old.view new.view Known

-- the store keeps these tables, and they are committed
pub record Stores (view : View) (tables : Tables) : Type 0 where
  pub holds : Holds view.trees tables
  pub rest : IsAtRest view

-- What was written is committed, and that is the answer; or the last commit stays. Where not all of
-- it was written, nothing is done, and the answer is why.
pub record CommitsWritten {S T : Type 0} (ghosts : Ghosts S) (written result : Result T StoreError)
    (old new : S) : Type 0 where
  pub survives : Survives (state ghosts old) (state ghosts new) (MayCommit (ghosts.view old))
  pub answer : IfOk result (λ value. written ≡ Ok value)
  pub committed : OnOk result (IsClean (ghosts.view new)
      → Commits (ghosts.view old) (ghosts.view new))
  pub refused : OnOk written (OnErr result (IsClean (ghosts.view new)
      → IsUndone (ghosts.view old) (ghosts.view new)))
  pub left : OnErr written (IsErr result × (new ≡ old))
  pub passed : IfErr written (λ stopped. IsErrAnd result (λ error. error ≡ stopped))
