-- New books are made in a store.
use Rattle.std.specs.Prelude.{◌≡◌, false, OnOk, Result}
use Rattle.sqlite_trees.specs.Tree.{Trees}
use Rattle.sqlite_trees.specs.View.{View}
use Rattle.book_model.specs.Words.{Naming, new_book}
use Rattle.book_core.specs.Ledgers.{IsOpenAt, Seen}
use Rattle.table_model.specs.TablesAfter.{new_tables}
use Rattle.tree_tables.specs.Holds.{Holds, has_book}
use Rattle.tree_tables.specs.States.{State, HasCleanDisk, Survives}
use Rattle.tree_tables.specs.Steps.{HasNoRows}
use Rattle.table_ledger.specs.Commits.{IsAtRest, Stores}

-- What the commit may leave if a stop comes within it: new books, whole. Where the row of a book is
-- there, nothing is committed.
pub record MayHoldNew (old : View) (trees : Trees) : Type 0 where
  pub absent : has_book old.trees ≡ false
  pub whole : HasNoRows old.trees → Holds trees new_tables

-- The tables of new books are made and committed, if the trees had no rows; and none are made where
-- the row of a book is there.
pub record MakesNew {T E : Type 0} (result : Result T E) (old new : State) : Type 0 where
  pub survives : Survives old new (MayHoldNew old.view)
  pub absent : HasCleanDisk new → OnOk result (has_book old.view.trees ≡ false)
  pub made : HasCleanDisk new → IsAtRest old.view → HasNoRows old.view.trees
      → OnOk result (Stores new.view new_tables)

-- New books are open, where the disk is clean and the store was an empty one: between two
-- transactions, and without rows.
abbrev pub OpensNew : Naming → View → State → Seen → Type 0
OpensNew naming old new seen =
    HasCleanDisk new → IsAtRest old → HasNoRows old.trees → IsOpenAt naming new_book seen
