-- What a call says of its store, by what the store shows before the call and after it: all but the
-- last where the disk has returned what was written to it.
use Rattle.std.specs.Prelude.{◌≡◌, ℕ}
use Rattle.sqlite_trees.specs.View.{IsClean, IsFailure, IsQuiet, KeepsCommitted}
use Rattle.sqlite_trees.specs.declared.error.StoreError.{StoreError}
use Rattle.sqlite_trees.specs.declared.store.Shape.TheVariants.{Index}
use Rattle.sqlite_trees.specs.declared.store.Store.{Ghosts}
use Rattle.sqlite_value.specs.Keys.{plain}
use Rattle.tree_rows.specs.Rows.{IsUnchanged}

-- the tree is sorted by its whole rows
abbrev pub IsSorted : {S : Type 0} → Ghosts S → S → ℕ → Type 0
IsSorted ghosts store tree =
    IsClean (ghosts.view store) → (ghosts.view store).shape tree ≡ Index plain

-- the call wrote nothing
abbrev pub OnlyLooks : {S : Type 0} → Ghosts S → S → S → Type 0
OnlyLooks ghosts old new =
    IsClean (ghosts.view new) → IsUnchanged (ghosts.view old) (ghosts.view new)

-- what was committed before the call still is
abbrev pub LeavesCommitted : {S : Type 0} → Ghosts S → S → S → Type 0
LeavesCommitted ghosts old new =
    IsClean (ghosts.view new) → KeepsCommitted (ghosts.view old) (ghosts.view new)

-- the store is left as it says of its own failures
abbrev pub FailsAsStore : {S : Type 0} → Ghosts S → S → S → StoreError → Type 0
FailsAsStore ghosts old new error =
    IsClean (ghosts.view new) → IsFailure (ghosts.view old) (ghosts.view new) error

-- the call commits nothing and forgets no fault
abbrev pub CommitsNothing : {S : Type 0} → Ghosts S → S → S → Type 0
CommitsNothing ghosts = IsQuiet ghosts.view ghosts.faults ghosts.recovers ghosts.is_shielded
