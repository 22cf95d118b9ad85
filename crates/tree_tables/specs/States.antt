-- What a store shows, and what becomes of it in a call.
use Rattle.std.specs.Prelude.{◌⊎◌, ◌≤◌, ℕ, IsTrue}
use Rattle.sqlite_disk.specs.Disk.{MoreFaults}
use Rattle.sqlite_trees.specs.Tree.{Trees}
use Rattle.sqlite_trees.specs.View.{View, IsClean, doubt}
use Rattle.sqlite_trees.specs.declared.store.Store.{Ghosts}
use Rattle.tree_tables.specs.declared.tables.TreeTables.{TreeTables}

-- its trees and its last commit, how often the disk has failed, whether each later read is tested,
-- and the trees that an open after a stop at this moment may find
pub record State : Type 1 where
  pub view : View
  pub faults : ℕ
  pub IsShielded : Type 0
  pub may_leave : Trees → Type 0

abbrev pub state : {S : Type 0} → Ghosts S → S → State
state ghosts store = record {
  view = ghosts.view store;
  faults = ghosts.faults store;
  IsShielded = ghosts.is_shielded store;
  may_leave = ghosts.recovers store;
}

-- what the tables of books show: that of their store, which is known by their type
abbrev pub state_of : {S : Type 0} {ghosts : Ghosts S} → TreeTables S ghosts → State
state_of {ghosts = ghosts} tables = state ghosts tables.store

-- the disk has returned what was written to it
abbrev pub HasCleanDisk : State → Type 0
HasCleanDisk state = IsClean state.view

-- No fault is forgotten, only a fault shuts the store, and a stop leaves what it could leave
-- before, or what the call commits.
pub record Survives (old new : State) (Commits : Trees → Type 0) : Type 0 where
  pub clean : doubt old.view.is_clean ≤ doubt new.view.is_clean
  pub shield : old.IsShielded → new.IsShielded
  pub counts : old.faults ≤ new.faults
  pub closes : HasCleanDisk new → IsTrue old.view.is_open
      → IsTrue new.view.is_open ⊎ MoreFaults old.faults new.faults
  pub crash : HasCleanDisk new → (trees : Trees) → new.may_leave trees
      → old.may_leave trees ⊎ Commits trees
