-- Books of older forms: their trees hold all tables of the book, whose choices count and do not say
-- so. Those of the first form hold no details, and so the tables of a book of which no record is
-- counted. The details are told by the rows and the lines.
use Rattle.std.specs.Prelude.{◌≡◌, ◌+◌, ◌++◌, ◌∷◌, [], ℕ, Bool, List, Option, filter, fold, length}
use Rattle.std.specs.Prelude.{if◌then◌else◌, map}
use Rattle.sqlite_trees.specs.Tree.{Trees}
use Rattle.book_model.specs.Std.{empty, entries}
use Rattle.book_model.specs.Words.{Book, Naming, by_bytes, set_of}
use Rattle.table_model.specs.Words.{charged_before_lines, first_line, count_row, IsReadable}
use Rattle.table_model.specs.Words.{RecordRow, Tables, tables_of}
use Rattle.table_model.specs.Journaled.{IsJournaled}
use Rattle.tree_tables.specs.OldChoices.{HoldsOld}
use Rattle.table_ledger.specs.declared.upgrading.Counted.{Counted}

-- the tables, of which none says that a record is counted
abbrev pub uncounted : Tables → Tables
uncounted tables = record tables { counted = empty }

-- the trees hold so much of the book, which can be read back, as older forms do
pub record IsStoredOld (written : Tables → Tables) (naming : Naming) (book : Book) (trees : Trees)
    : Type 0 where
  pub readable : IsReadable naming book
  pub journaled : IsJournaled book
  pub holds : HoldsOld trees (written (tables_of naming book))

-- the open period, by the closes
abbrev pub open_read : Tables → ℕ
open_read tables = length (entries tables.closes) + 1

-- A record is counted as it was charged before its first line, if it has one: all of its lines are
-- in periods later than that of its day, in which it was charged so. Of some rows these are the names
-- of those that are counted, by the first lines of records.
abbrev pub names_by : (List ℕ → Option Bool) → List (List ℕ × RecordRow) → List (List ℕ)
names_by first rows =
    map (λ (entry : List ℕ × RecordRow). entry.0)
    (filter (λ (entry : List ℕ × RecordRow).
    charged_before_lines (first entry.0) entry.1.charged) rows)

-- the names of the records that are counted, by their rows and the lines
abbrev pub names_read : Tables → List (List ℕ)
names_read tables =
    names_by (λ name. first_line tables.lines name 1 (open_read tables)) (entries tables.records)

-- the names of records that were read
abbrev pub names_of : List Counted → List (List ℕ)
names_of all = map (λ (one : Counted). one.name) all

-- a record's name joins, where it is counted
abbrev pub AddsCounted :
    Option Bool → List ℕ × RecordRow → List (List ℕ) → List (List ℕ) → Type 0
AddsCounted line entry old new =
    new ≡ (if charged_before_lines line entry.1.charged then old ++ entry.0 ∷ [] else old)

-- the records of some names are counted, one after the other
abbrev pub count_each : List (List ℕ) → Tables → Tables
count_each names tables =
    fold (λ (so_far : Tables) (name : List ℕ). count_row name so_far) tables names

-- the tables, with those records counted that their rows and lines tell
abbrev pub with_details : Tables → Tables
with_details tables = record tables { counted = set_of by_bytes (names_read tables) }
