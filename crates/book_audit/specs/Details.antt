-- The rows of details, one after the other.
use Rattle.std.specs.Prelude.{◌≡◌, ◌∷◌, [], ℕ, ℤ, pos, true, List, map}
use Rattle.sqlite_trees.specs.Tree.{Trees}
use Rattle.sqlite_value.specs.Order.{Row, column}
use Rattle.sqlite_value.specs.declared.value.Value.TheVariants.{Int, Text}
use Rattle.book_model.specs.Std.{AllByRecursion}
use Rattle.book_model.specs.Words.{Priced, detail_with}
use Rattle.book_model.specs.declared.detail.Detail.{Detail}
use Rattle.table_model.specs.Words.{row_record, RecordRow}
use Rattle.tree_tables.specs.Columns.{detail_columns}
use Rattle.book_audit.specs.Records.{HasPast, IsHeld}
use Rattle.book_audit.specs.Walks.{AreRising}
use Rattle.book_audit.specs.declared.finding.Tree.TheVariants.{Details}

-- a row says what a record costs, and where
pub record HasCost (row : Row) (priced : Priced) : Type 0 where
  pub day : column row 0 ≡ Int priced.day
  pub centre : column row 1 ≡ Text priced.centre
  pub shift : column row 2 ≡ Text priced.shift
  pub cpu : column row 9 ≡ Int (pos priced.cpu)
  pub excp : column row 10 ≡ Int (pos priced.excp)
  pub amount : column row 11 ≡ Int (pos priced.amount)

-- by its lines the row of its period counts a record
abbrev pub IsCounted : List Row → List ℤ → List ℕ × RecordRow → Type 0
IsCounted lines closes entry = HasPast lines closes entry true

-- What is shown is a record that is held, as its row and its bytes say, and that is counted.
pub record ShowsCounted (trees : Trees) (closes : List ℤ) (shown : Detail) : Type 0 where
  pub entry : List ℕ × RecordRow
  pub held : IsHeld (trees 3) shown.name entry
  pub is : shown ≡ detail_with shown.name (row_record entry.1) entry.1.priced
  pub counted : IsCounted (trees 5) closes entry

-- all rows show such records, in the order of details
pub record AreDetails (trees : Trees) (closes : List ℤ) : Type 0 where
  pub shown : List Detail
  pub are : trees 10 ≡ map (λ one. detail_columns (one, tt)) shown
  pub rising : AreRising Details (trees 10)
  pub each : AllByRecursion (ShowsCounted trees closes) shown
