-- Walks over all records: the rows that are left, and how far a walk has come that changes rows by
-- name, or the keys that find records.
use Rattle.std.specs.Prelude.{◌≡◌, ◌==◌, ℕ, List, [], ◌∷◌, Bool, true, false, Option, Some, None}
use Rattle.std.specs.Prelude.{if◌then◌else◌, map}
use Rattle.std.specs.FinMap.{entries, get}
use Rattle.sqlite_trees.specs.Tree.{Trees, from_key}
use Rattle.sqlite_trees.specs.View.{View, OnlyWrites}
use Rattle.sqlite_value.specs.Keys.{plain}
use Rattle.sqlite_value.specs.Order.{Row, column}
use Rattle.sqlite_value.specs.declared.value.Value.TheVariants.{Blob}
use Rattle.table_model.specs.Steps.{rename_rows}
use Rattle.table_model.specs.RowChanges.{by_second_rule}
use Rattle.table_model.specs.Tables.{CameTable, RecordRow, RecordTable, Tables}
use Rattle.tree_rows.specs.Changes.{is_above, updated, DoneTo}
use Rattle.tree_rows.specs.Indexes.{by_both}
use Rattle.tree_rows.specs.Rows.{past_key, ChangesRow}
use Rattle.tree_tables.specs.Columns.{record_columns}
use Rattle.tree_tables.specs.Holds.{Holds}

-- the rows after those of a key, or all where the key has no columns
abbrev pub rows_past : Row → List Row → List Row
rows_past [] rows = rows
rows_past (value ∷ more) rows = past_key (value ∷ more) (from_key plain (value ∷ more) rows)

-- the key of the last name that a walk has come to, with no columns before the first
abbrev pub last_name_key : Option (List ℕ) → Row
last_name_key None = []
last_name_key (Some name) = Blob name ∷ []

-- The trees hold these tables, but that the two trees which find records have the keys of others.
abbrev pub with_rows_of : CameTable → RecordTable → Trees → Trees
with_rows_of came records trees tree =
    if tree == 3 then map (record_columns came) (entries records) else trees tree

pub record HoldsFoundBy (trees : Trees) (tables : Tables) (keyed : RecordTable) : Type 0 where
  pub records : trees 3 ≡ map (record_columns tables.came) (entries tables.records)
  pub rest : Holds (with_rows_of tables.came keyed trees) (record tables { records = keyed })

-- a record's row as a change makes it, or that it is so already
abbrev pub IsRenewed :
    (RecordRow → RecordRow) → CameTable → List ℕ × RecordRow → Row → Bool → Type 0
IsRenewed change came entry row true = row ≡ record_columns came (entry.0, change entry.1)
IsRenewed change came entry row false = change entry.1 ≡ entry.1

-- the same of the record that has this row
abbrev pub RenewsRow : (RecordRow → RecordRow) → Row → Row → Bool → Type 0
RenewsRow change before row due =
    (came : CameTable) (entry : List ℕ × RecordRow) → before ≡ record_columns came entry
    → IsRenewed change came entry row due

-- A walk by name that changes the rows of the records of these tables, and no key that finds them,
-- has come to a key: all rows that it has passed are changed, and the change of all makes the same.
pub record IsRenewing (change : RecordRow → RecordRow) (tables : Tables) (trees : Trees) (key : Row)
    : Type 0 where
  pub last : Option (List ℕ)
  pub place : key ≡ last_name_key last
  pub records : RecordTable
  pub holds : HoldsFoundBy trees (record tables { records = records }) tables.records
  pub whole : updated change records ≡ updated change tables.records
  pub done : DoneTo change last records

-- the tables with all rows changed
abbrev pub renewed : (RecordRow → RecordRow) → Tables → Tables
renewed change tables = record tables { records = updated change tables.records }

-- it continues, or all are changed
abbrev pub Renews : (RecordRow → RecordRow) → Tables → Trees → Row → Bool → Type 0
Renews change tables trees key true = IsRenewing change tables trees key
Renews change tables trees key false =
    HoldsFoundBy trees (renewed change tables) tables.records

-- one step of it
pub record RenewsNext (change : RecordRow → RecordRow) (old new : View) (key next : Row)
    (more : Bool) : Type 0 where
  pub only : OnlyWrites old new
  pub renews : (tables : Tables) → IsRenewing change tables old.trees key
      → Renews change tables new.trees next more

-- the key of the last entry that a walk by identity has come to
abbrev pub entry_key : Option (List ℕ × List ℕ) → Row
entry_key None = []
entry_key (Some entry) = Blob entry.0 ∷ Blob entry.1 ∷ []

-- A walk by the identities that records had, after which their keys are those that their rows say
-- by the second rule, has come to a key: the records that it has passed are found so.
pub record IsKeying (tables : Tables) (trees : Trees) (key : Row) : Type 0 where
  pub last : Option (List ℕ × List ℕ)
  pub place : key ≡ entry_key last
  pub keyed : RecordTable
  pub holds : HoldsFoundBy trees tables keyed
  pub whole : updated by_second_rule keyed ≡ tables.records
  pub done : (name : List ℕ) (row : RecordRow) → get keyed name ≡ Some row
      → is_above by_both last (row.identity, name) ≡ false → by_second_rule row ≡ row

-- it continues, or all are
abbrev pub Keys : Tables → Trees → Row → Bool → Type 0
Keys tables trees key true = IsKeying tables trees key
Keys tables trees key false = Holds trees tables

-- one step of it
pub record KeysNext (old new : View) (key next : Row) (more : Bool) : Type 0 where
  pub only : OnlyWrites old new
  pub keys : (tables : Tables) → IsKeying tables old.trees key → Keys tables new.trees next more

-- The record with this row makes way, in the two trees that find it, from the identity of an entry
-- to the one that its row says.
pub record MovesKeys (old new : View) (row entry : Row) : Type 0 where
  pub mid : View
  pub identity : ChangesRow old mid 6 entry (column row 1 ∷ column entry 1 ∷ [])
  pub mark : ChangesRow mid new 7 (column row 9 ∷ column entry 0 ∷ column entry 1 ∷ [])
      (column row 9 ∷ column row 1 ∷ column entry 1 ∷ [])

-- The rows of all records have their identities by the second rule, and their keys have not yet.
pub record RenamesRows (old new : View) : Type 0 where
  pub only : OnlyWrites old new
  pub renamed : (tables : Tables) → Holds old.trees tables
      → HoldsFoundBy new.trees (rename_rows tables) tables.records

-- So have the keys of such records.
pub record KeysRecords (old new : View) : Type 0 where
  pub only : OnlyWrites old new
  pub keyed : (tables : Tables) → HoldsFoundBy old.trees (rename_rows tables) tables.records
      → Holds new.trees (rename_rows tables)
