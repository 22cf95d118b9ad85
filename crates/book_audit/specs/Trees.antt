-- The trees by their numbers, and what a look at them finds.
use Rattle.std.specs.Prelude.{◌≡◌, ◌&&◌, ℕ, Bool, true, List}
use Rattle.std.specs.Ordering.{is_eq}
use Rattle.sqlite_trees.specs.Tree.{from_key}
use Rattle.sqlite_value.specs.Keys.{plain, prefix_cmp}
use Rattle.sqlite_value.specs.Order.{Row}
use Rattle.tree_rows.specs.Rows.{Finds, IsFirst, past_key}
use Rattle.book_audit.specs.declared.finding.Tree.{Tree}
use Rattle.book_audit.specs.declared.finding.Tree.TheVariants.{Book, Tariffs, Closes, Records}
use Rattle.book_audit.specs.declared.finding.Tree.TheVariants.{Days, Lines, Identities, Marks}
use Rattle.book_audit.specs.declared.finding.Tree.TheVariants.{Choices, ChoiceNames, Details}
use Rattle.book_audit.specs.declared.finding.Tree.TheVariants.{Credits, Journal, Replaced}

-- in the order in which a file lists them
abbrev pub tree_number : Tree → ℕ
tree_number Book = 0
tree_number Tariffs = 1
tree_number Closes = 2
tree_number Records = 3
tree_number Days = 4
tree_number Lines = 5
tree_number Identities = 6
tree_number Marks = 7
tree_number Choices = 8
tree_number ChoiceNames = 9
tree_number Details = 10
tree_number Credits = 11
tree_number Replaced = 12
tree_number Journal = 13

-- a look-up of the key finds a row that has it
pub record HasKey (key : Row) (rows : List Row) : Type 0 where
  pub row : Row
  pub finds : Finds key rows row true

-- whether the row after the first that has the key has it too
pub record FindsTwo (key : Row) (rows : List Row) (row : Row) (two : Bool) : Type 0 where
  pub there : Bool
  pub behind : IsFirst (past_key key (from_key plain key rows)) row there
  pub is : two ≡ (there && is_eq (prefix_cmp plain row key))
