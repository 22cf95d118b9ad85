-- How far a walk through a tree has come.
use Rattle.std.specs.Prelude.{◌≡◌, ◌++◌, ◌∷◌, [], ◌==◌, ℕ, Bool, true, false, List, length, take}
use Rattle.std.specs.Prelude.{if◌then◌else◌}
use Rattle.sqlite_trees.specs.Tree.{IsAscending, Trees}
use Rattle.sqlite_value.specs.Order.{Row, row_cmp}
use Rattle.book_model.specs.Std.{AllByRecursion, Less}
use Rattle.tree_tables.specs.Walks.{rows_past}
use Rattle.book_audit.specs.declared.finding.Tree.{Tree}
use Rattle.book_audit.specs.declared.finding.Tree.TheVariants.{Book, Tariffs, Closes, Records, Days}
use Rattle.book_audit.specs.declared.finding.Tree.TheVariants.{Lines, Identities, Marks, Choices}
use Rattle.book_audit.specs.declared.finding.Tree.TheVariants.{ChoiceNames, Credits, Details}
use Rattle.book_audit.specs.declared.finding.Tree.TheVariants.{Journal, Replaced}
use Rattle.book_audit.specs.declared.walk.Walk.{Walk}
use Rattle.book_audit.specs.Trees.{tree_number}

-- How many columns a row of the tree has, where so many were found: one of a record has one more if
-- the record came by an entry, and one of the journal has few if it is of a ruling.
abbrev pub width : Tree → ℕ → ℕ
width Book found = 5
width Tariffs found = 2
width Closes found = 2
width Records found = if found == 12 then 12 else 11
width Days found = 8
width Lines found = 3
width Identities found = 2
width Marks found = 3
width Choices found = 4
width ChoiceNames found = 2
width Details found = 12
width Credits found = 5
width Replaced found = 4
width Journal found = if found == 20 then 20 else 7

-- and how many of the first of them are its key
abbrev pub key_width : Tree → ℕ
key_width Book = 1
key_width Tariffs = 1
key_width Closes = 1
key_width Records = 1
key_width Days = 4
key_width Lines = 2
key_width Identities = 2
key_width Marks = 3
key_width Choices = 1
key_width ChoiceNames = 2
key_width Details = 5
key_width Credits = 1
key_width Replaced = 1
key_width Journal = 1

-- the key of a row
abbrev pub key_in : Tree → Row → Row
key_in tree row = take (key_width tree) row

-- the keys of the rows rise
abbrev pub AreRising : Tree → List Row → Type 0
AreRising tree = IsAscending (λ a b. row_cmp (key_in tree a) (key_in tree b) ≡ Less)

-- a row has the columns of the tree's rows
abbrev pub IsWide : Tree → Row → Type 0
IsWide tree row = length row ≡ width tree (length row)

-- so does each row
abbrev pub AreWide : Tree → List Row → Type 0
AreWide tree = AllByRecursion (IsWide tree)

-- the key of the last row, and no columns where there is none
abbrev pub last_key : Tree → List Row → Row
last_key tree [] = []
last_key tree (row ∷ []) = key_in tree row
last_key tree (row ∷ next ∷ rows) = last_key tree (next ∷ rows)

-- A walk that has come to a key has read these rows, in the order of their keys: those after the
-- key are the others.
pub record HasWalked (tree : Tree) (key : Row) (rows done : List Row) : Type 0 where
  pub place : key ≡ last_key tree done
  pub left : rows ≡ done ++ rows_past key rows
  pub wide : AreWide tree done
  pub rising : AreRising tree done

-- it has read one more row; or it had read all
abbrev pub WalksOn : Tree → Row → Row → List Row → List Row → Bool → Type 0
WalksOn tree key row rows done true = HasWalked tree key rows (done ++ row ∷ [])
WalksOn tree key row rows done false = rows ≡ done

-- One step of a walk: whatever rows it had read, it has read the next one; or it had read all.
abbrev pub GoesOn : Walk → Walk → Trees → Bool → Type 0
GoesOn old new trees there =
    (done : List Row) → HasWalked old.tree old.key (trees (tree_number old.tree)) done
    → WalksOn old.tree new.key new.row (trees (tree_number old.tree)) done there
