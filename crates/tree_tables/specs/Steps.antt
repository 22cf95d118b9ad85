-- What a look at the tables answers, and what a step inside the transaction does to them.
use Rattle.std.specs.Prelude.{◌≡◌, ◌<◌, [], ℕ, List, false, IfOk, IsTrue, OnErr, OnOk, Result}
use Rattle.std.specs.Prelude.{Vec}
use Rattle.std.specs.Global.{Global}
use Rattle.std.specs.List.{AllZip}
use Rattle.sqlite_trees.specs.Tree.{Trees}
use Rattle.sqlite_trees.specs.View.{View, KeepsCommitted, OnlyWrites}
use Rattle.sqlite_trees.specs.declared.error.StoreError.{StoreError}
use Rattle.sqlite_value.specs.Order.{Row}
use Rattle.table_model.specs.TablesAfter.{new_tables}
use Rattle.table_model.specs.Tables.{Tables}
use Rattle.tree_rows.specs.Rows.{IsUnchanged}
use Rattle.tree_tables.specs.Holds.{Holds, tree_count}
use Rattle.tree_tables.specs.States.{State, HasCleanDisk, Survives}

-- this is said of the tables, which are left alone
pub record Sees (old new : View) (Known : Tables → Type 0) : Type 0 where
  pub same : IsUnchanged old new
  pub known : (tables : Tables) → Holds old.trees tables → Known tables

-- A look at the tables: what it answers is said of them, and they are left alone; where the store
-- fails, its last commit stays.
pub record Looks {A : Type 0} (result : Result A StoreError) (old new : State)
    (Answers : Tables → A → Type 0) : Type 0 where
  pub survives : Survives old new (λ trees. ⊥)
  pub found : HasCleanDisk new
      → IfOk result (λ answer. Sees old.view new.view (λ tables. Answers tables answer))
  pub refused : HasCleanDisk new → OnErr result (KeepsCommitted old.view new.view)

-- the tree has these rows of the tables that are held
abbrev pub HasRowsOf : View → ℕ → (Tables → List Row) → Type 0
HasRowsOf view tree rows =
    (tables : Tables) → Holds view.trees tables → view.trees tree ≡ rows tables

-- a look at a tree, of which each row says one of the values
abbrev pub ReadsTree : {A : Type 0} → Result (Vec A Global) StoreError → State → State → ℕ
    → (Row → A → Type 0) → Type 0
ReadsTree result old new tree Says =
    (rows : Tables → List Row) → HasRowsOf old.view tree rows
    → Looks result old new (λ tables all. AllZip Says (rows tables) all.items)

-- tables that the premise holds of are changed so, and nothing else is
pub record Changes (old new : View) (When : Tables → Type 0) (change : Tables → Tables) : Type 0
  where
    pub only : OnlyWrites old new
    pub made : (tables : Tables) → Holds old.trees tables → When tables
        → Holds new.trees (change tables)

-- A step inside the transaction, where the premise holds of the tables: the change where it
-- succeeds, and no commit; where the store fails, its last commit stays.
pub record Does {T : Type 0} (result : Result T StoreError) (old new : State)
    (When : Tables → Type 0) (change : Tables → Tables) : Type 0 where
  pub survives : Survives old new (λ trees. ⊥)
  pub done : HasCleanDisk new → OnOk result (Changes old.view new.view When change)
  pub refused : HasCleanDisk new → OnErr result (KeepsCommitted old.view new.view)

-- of any tables
abbrev pub Always : Tables → Type 0
Always tables = Unit {0}

-- none of the trees has a row
pub record HasNoRows (trees : Trees) : Type 0 where
  pub empty : (tree : ℕ) → tree < tree_count → trees tree ≡ []

-- New books are made where there are no rows; where the store fails, its last commit stays.
pub record Makes {T : Type 0} (result : Result T StoreError) (old new : State) : Type 0 where
  pub survives : Survives old new (λ trees. ⊥)
  pub done : HasCleanDisk new → OnOk result (OnlyWrites old.view new.view
      × (HasNoRows old.view.trees → Holds new.view.trees new_tables))
  pub refused : HasCleanDisk new → OnErr result (KeepsCommitted old.view new.view)

-- the last commit stays, as long as the store is open
pub record KeepsLastCommit (old new : View) : Type 0 where
  pub was_open : IsTrue new.is_open → IsTrue old.is_open
  pub committed : IsTrue new.is_open → new.committed ≡ old.committed

-- what was written is rolled back: the last commit is what is seen again
pub record IsUndone (old new : View) : Type 0 where
  pub stands : KeepsLastCommit old new
  pub undone : IsTrue new.is_open → (new.trees ≡ old.committed) × (new.is_broken ≡ false)

-- what a commit leaves where a stop comes within it: all that was written
pub record MayCommit (old : View) (trees : Trees) : Type 0 where
  pub sound : old.is_broken ≡ false
  pub whole : trees ≡ old.trees
