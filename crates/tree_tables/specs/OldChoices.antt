-- Choices as older forms have them, whose rows do not say whether they count: each counts. The rows get
-- the mark one after the other.
use Rattle.std.specs.Prelude.{◌≡◌, ◌==◌, ℕ, pos, Bool, true, false, List, [], ◌∷◌, fold, map}
use Rattle.std.specs.Prelude.{if◌then◌else◌, Result, OnErr, OnOk}
use Rattle.std.specs.FinMap.{entries, insert}
use Rattle.std.specs.List.{AllByRecursion}
use Rattle.sqlite_trees.specs.Tree.{Trees}
use Rattle.sqlite_trees.specs.View.{KeepsCommitted, OnlyWrites, View}
use Rattle.sqlite_trees.specs.declared.error.StoreError.{StoreError}
use Rattle.sqlite_value.specs.Order.{Row, column}
use Rattle.sqlite_value.specs.declared.value.Value.TheVariants.{Blob, Int}
use Rattle.table_model.specs.MapChanges.{updated}
use Rattle.table_model.specs.Tables.{ChoiceRow, ChoiceTable, Tables}
use Rattle.tree_tables.specs.Columns.{choice_columns}
use Rattle.tree_tables.specs.Holds.{Holds}
use Rattle.tree_tables.specs.States.{State, HasCleanDisk, Survives}
use Rattle.tree_tables.specs.declared.old_choices.OldChoice.{OldChoice}

-- the mark of a choice that counts, which a row of an older form does not have
abbrev pub mark_of_choice : Bool → Row
mark_of_choice marked = if marked then Int (pos 1) ∷ [] else []

-- the row of a choice that has the mark, or has it not yet
abbrev pub part_columns : ℕ × ChoiceRow → Row
part_columns choice =
    Int (pos choice.0) ∷ Blob choice.1.name ∷ Int (pos choice.1.period)
    ∷ mark_of_choice choice.1.counts

-- the trees with the rows of these tables in place of those of the choices
abbrev pub with_choices_of : Tables → Trees → Trees
with_choices_of tables trees tree =
    if tree == 8 then map choice_columns (entries tables.choices) else trees tree

-- The trees hold these tables, but that only those of the choices have their mark that say so here.
pub record HoldsPart (trees : Trees) (tables : Tables) (choices : ChoiceTable) : Type 0 where
  pub rows : trees 8 ≡ map part_columns (entries choices)
  pub rest : Holds (with_choices_of tables trees) tables

-- a choice without its mark
abbrev pub unmarked : ChoiceRow → ChoiceRow
unmarked choice = record choice { counts = false }

-- The trees hold these tables, all of whose choices count, as older forms do.
pub record HoldsOld (trees : Trees) (tables : Tables) : Type 0 where
  pub part : HoldsPart trees tables (updated unmarked tables.choices)
  pub count : AllByRecursion (λ (choice : ℕ × ChoiceRow). choice.1.counts ≡ true)
      (entries tables.choices)

-- the columns are those of the choice
pub record SaysOldChoice (row : Row) (choice : OldChoice) : Type 0 where
  pub number : column row 0 ≡ Int (pos choice.number)
  pub name : column row 1 ≡ Blob choice.name
  pub period : column row 2 ≡ Int (pos choice.period)

-- it counts
abbrev pub marked : OldChoice → ChoiceRow
marked choice = record { name = choice.name; counts = true; period = choice.period }

-- choices get their mark, one after the other
abbrev pub mark_each : List OldChoice → ChoiceTable → ChoiceTable
mark_each all choices =
    fold (λ (so_far : ChoiceTable) (one : OldChoice). insert so_far one.number (marked one)) choices all

-- A step inside the transaction that marks choices so, and no commit; where the store fails, its last
-- commit stays.
pub record Marks {T : Type 0} (result : Result T StoreError) (old new : State)
    (change : ChoiceTable → ChoiceTable) : Type 0 where
  pub survives : Survives old new (λ trees. ⊥)
  pub done : HasCleanDisk new → OnOk result (OnlyWrites old.view new.view
      × ((tables : Tables) (choices : ChoiceTable) → HoldsPart old.view.trees tables choices
      → HoldsPart new.view.trees tables (change choices)))
  pub refused : HasCleanDisk new → OnErr result (KeepsCommitted old.view new.view)

-- trees that held tables as older forms do hold them
pub record MarksAll {T : Type 0} (result : Result T StoreError) (old new : State) : Type 0 where
  pub survives : Survives old new (λ trees. ⊥)
  pub done : HasCleanDisk new → OnOk result (OnlyWrites old.view new.view
      × ((tables : Tables) → HoldsOld old.view.trees tables → Holds new.view.trees tables))
  pub refused : HasCleanDisk new → OnErr result (KeepsCommitted old.view new.view)
