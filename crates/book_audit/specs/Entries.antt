-- The trees that find the rows of a table, entry by entry.
use Rattle.std.specs.Prelude.{◌≡◌, ℕ, List, length, pos}
use Rattle.std.specs.List.{AllByRecursion}
use Rattle.sqlite_value.specs.Order.{Row, column}
use Rattle.sqlite_value.specs.declared.value.Value.{Value}
use Rattle.sqlite_value.specs.declared.value.Value.TheVariants.{Blob, Int}
use Rattle.book_audit.specs.declared.finding.Tree.{Tree}
use Rattle.book_audit.specs.declared.finding.Tree.TheVariants.{Book, Tariffs, Closes, Records}
use Rattle.book_audit.specs.declared.finding.Tree.TheVariants.{Days, Lines, Identities, Marks}
use Rattle.book_audit.specs.declared.finding.Tree.TheVariants.{Choices, ChoiceNames, Details}
use Rattle.book_audit.specs.declared.finding.Tree.TheVariants.{Credits, Journal, Replaced}
use Rattle.book_audit.specs.Walks.{AreRising, AreWide}

-- a column has bytes,
abbrev pub HasBytes : Value → Type 0
HasBytes value = (bytes : List ℕ) × (value ≡ Blob bytes)

-- or a number that is not below 0
abbrev pub HasCount : Value → Type 0
HasCount value = (n : ℕ) × (value ≡ Int (pos n))

-- an entry has bytes, and a number before or after them, where it has one
abbrev pub IsEntry : Tree → Row → Type 0
IsEntry Identities row = HasBytes (column row 0) × HasBytes (column row 1)
IsEntry Marks row = HasCount (column row 0) × HasBytes (column row 1) × HasBytes (column row 2)
IsEntry ChoiceNames row = HasBytes (column row 0) × HasCount (column row 1)
IsEntry Book row = ⊥
IsEntry Tariffs row = ⊥
IsEntry Closes row = ⊥
IsEntry Records row = ⊥
IsEntry Days row = ⊥
IsEntry Lines row = ⊥
IsEntry Choices row = ⊥
IsEntry Details row = ⊥
IsEntry Credits row = ⊥
IsEntry Replaced row = ⊥
IsEntry Journal row = ⊥

-- the rows are entries, in the order of their keys, and so many
pub record AreCounted (tree : Tree) (rows : List Row) (count : ℕ) : Type 0 where
  pub each : AllByRecursion (IsEntry tree) rows
  pub wide : AreWide tree rows
  pub rising : AreRising tree rows
  pub are : count ≡ length rows
