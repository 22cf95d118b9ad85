-- The credits, and the tariffs that were replaced, one after the other.
use Rattle.std.specs.Prelude.{◌≡◌, ◌+◌, ◌<◌, ◌≤◌, ℕ, List, length, map}
use Rattle.sqlite_trees.specs.Tree.{Trees}
use Rattle.sqlite_value.specs.Order.{Row}
use Rattle.book_model.specs.Std.{AllByRecursion}
use Rattle.book_model.specs.Words.{Credit, Replaced, most_credits, most_replaced}
use Rattle.table_model.specs.TablesOf.{replaced_row}
use Rattle.table_model.specs.Words.{under_numbers}
use Rattle.consistent_tables.specs.Consistent.{IsOwnCredit, IsOwnReplaced}
use Rattle.tree_tables.specs.Columns.{credit_columns, replaced_columns}

-- the rows of credits under the numbers from 1 on
abbrev pub credit_rows : List Credit → List Row
credit_rows credits = map credit_columns (under_numbers 1 credits)

-- a row is that of the next credit after so many, which may have been given
pub record IsCreditRow (count last : ℕ) (row : Row) : Type 0 where
  pub credit : Credit
  pub is : row ≡ credit_columns (count + 1, credit)
  pub own : IsOwnCredit last credit
  pub few : count < most_credits

-- all rows are those of such credits, and they are no more than can be given
pub record AreCredits (last : ℕ) (rows : List Row) : Type 0 where
  pub credits : List Credit
  pub are : rows ≡ credit_rows credits
  pub own : AllByRecursion (IsOwnCredit last) credits
  pub few : length credits ≤ most_credits

-- the rows of replaced tariffs under the numbers from 1 on
abbrev pub replaced_rows : List Replaced → List Row
replaced_rows replaced = map replaced_columns (under_numbers 1 (map replaced_row replaced))

-- a row is that of the next replaced tariff after so many, whose text says its terms
pub record IsReplacedRow (count last : ℕ) (row : Row) : Type 0 where
  pub replaced : Replaced
  pub is : row ≡ replaced_columns (count + 1, replaced_row replaced)
  pub own : IsOwnReplaced last replaced
  pub few : count < most_replaced

-- all rows are those of such tariffs, and they are no more than can be replaced
pub record AreReplaced (last : ℕ) (rows : List Row) : Type 0 where
  pub replaced : List Replaced
  pub are : rows ≡ replaced_rows replaced
  pub own : AllByRecursion (IsOwnReplaced last) replaced
  pub few : length replaced ≤ most_replaced

-- both trees are those of such rulings
pub record AreKept (last : ℕ) (trees : Trees) : Type 0 where
  pub replaced : AreReplaced last (trees 12)
  pub credits : AreCredits last (trees 11)
