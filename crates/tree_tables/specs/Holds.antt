-- The trees that hold the tables: one for each table, in the order of its key, two more that find
-- records, by their identities and by their marks, one more that finds choices, by the names of the
-- records that were chosen, and one that shows the records that are counted.
use Rattle.std.specs.Prelude.{◌≡◌, ℕ, Bool, false, List, [], ◌∷◌, map, pos, Some}
use Rattle.std.specs.FinMap.{FinMap, contains_key, entries, get, retain_keys}
use Rattle.std.specs.Option.{option_cmp}
use Rattle.std.specs.Ordering.{is_eq, nat_cmp, ordering_then}
use Rattle.std.specs.declared.cmp.Ordering.{Ordering}
use Rattle.sqlite_trees.specs.Tree.{Trees, from_key}
use Rattle.sqlite_trees.specs.View.{View}
use Rattle.sqlite_trees.specs.declared.store.Shape.TheVariants.{Index}
use Rattle.sqlite_value.specs.Keys.{plain, prefix_cmp}
use Rattle.sqlite_value.specs.Order.{Row}
use Rattle.sqlite_value.specs.declared.value.Value.TheVariants.{Int}
use Rattle.book_model.specs.Words.{by_detail}
use Rattle.book_model.specs.declared.detail.Detail.{Detail}
use Rattle.book_model.specs.declared.row.ChargeRow.{ChargeRow}
use Rattle.book_model.specs.declared.row.RowKey.{RowKey}
use Rattle.table_model.specs.DetailsRead.{detail_shown}
use Rattle.table_model.specs.Tables.{ChoiceRow, ChoiceTable, CountedTable, DayTable, RecordRow}
use Rattle.table_model.specs.Tables.{RecordTable, Tables}
use Rattle.table_model.specs.TablesOf.{row_key}
use Rattle.tree_rows.specs.Indexes.{index_of, by_both, by_bytes, by_mark, by_parts}
use Rattle.tree_tables.specs.Columns.{flag, book_columns, tariff_columns, closed_columns}
use Rattle.tree_tables.specs.Columns.{record_columns, day_columns, line_columns}
use Rattle.tree_tables.specs.Columns.{identity_columns, mark_columns, choice_columns}
use Rattle.tree_tables.specs.Columns.{choice_name_columns, detail_columns, credit_columns}
use Rattle.tree_tables.specs.Columns.{replaced_columns}
use Rattle.tree_tables.specs.JournalColumns.{journal_columns}

-- an identity with a name that has it
abbrev pub identity_key : List ℕ × RecordRow → List ℕ × List ℕ
identity_key entry = (entry.1.identity, entry.0)

abbrev pub identity_index : RecordTable → FinMap by_both (Unit {0})
identity_index records = index_of identity_key records

-- a mark, with an identity and a name of a record that has the mark
abbrev pub mark_key : List ℕ × RecordRow → ℕ × (List ℕ × List ℕ)
mark_key entry = (flag entry.1.charged, (entry.1.identity, entry.0))

abbrev pub marks : RecordTable → FinMap by_mark (Unit {0})
marks records = index_of mark_key records

-- a name and a number, by the name and then by the number
abbrev pub by_chosen : List ℕ × ℕ → List ℕ × ℕ → Ordering
by_chosen = by_parts by_bytes nat_cmp

-- the name of a record that was chosen, with the number of the choice
abbrev pub choice_name_key : ℕ × ChoiceRow → List ℕ × ℕ
choice_name_key entry = (entry.1.name, entry.0)

abbrev pub choice_name_index : ChoiceTable → FinMap by_chosen (Unit {0})
choice_name_index choices = index_of choice_name_key choices

-- by what details show of the work and of its price
abbrev pub by_work : Detail → Detail → Ordering
by_work a b =
    ordering_then (by_bytes a.job b.job)
    (ordering_then (by_bytes a.program b.program)
    (ordering_then (by_bytes a.job_id b.job_id)
    (ordering_then (option_cmp nat_cmp a.step b.step)
    (ordering_then (nat_cmp a.priced.cpu b.priced.cpu)
    (ordering_then (nat_cmp a.priced.excp b.priced.excp)
    (nat_cmp a.priced.amount b.priced.amount))))))

-- as details stand, and then by all else that they show
abbrev pub by_shown : Detail → Detail → Ordering
by_shown a b = ordering_then (by_detail a b) (by_work a b)

-- the rows of the records that are counted
abbrev pub counted_among : CountedTable → RecordTable → RecordTable
counted_among counted records = retain_keys records (contains_key counted)

abbrev pub detail_index : CountedTable → RecordTable → FinMap by_shown (Unit {0})
detail_index counted records = index_of detail_shown (counted_among counted records)

-- each charge row is under its own place
abbrev pub AreUnderOwnKeys : DayTable → Type 0
AreUnderOwnKeys days =
    (key : ℕ × RowKey) (row : ChargeRow) → get days key ≡ Some row → row_key row ≡ key.1

-- how many trees there are
abbrev pub tree_count : ℕ
tree_count = 14

-- The rows of the trees are those of the tables.
pub record Holds (trees : Trees) (tables : Tables) : Type 0 where
  pub book : trees 0 ≡ book_columns tables.book ∷ []
  pub tariffs : trees 1 ≡ map tariff_columns (entries tables.tariffs)
  pub closes : trees 2 ≡ map closed_columns (entries tables.closes)
  pub records : trees 3 ≡ map (record_columns tables.came) (entries tables.records)
  pub days : trees 4 ≡ map day_columns (entries tables.days)
  pub placed : AreUnderOwnKeys tables.days
  pub lines : trees 5 ≡ map line_columns (entries tables.lines)
  pub identity_index : trees 6 ≡ map identity_columns (entries (identity_index tables.records))
  pub marks : trees 7 ≡ map mark_columns (entries (marks tables.records))
  pub choices : trees 8 ≡ map choice_columns (entries tables.choices)
  pub choice_name_index : trees 9 ≡ map choice_name_columns (entries (choice_name_index tables.choices))
  pub details : trees 10 ≡ map detail_columns (entries (detail_index tables.counted tables.records))
  pub credits : trees 11 ≡ map credit_columns (entries tables.credits)
  pub replaced : trees 12 ≡ map replaced_columns (entries tables.replaced)
  pub journal : trees 13 ≡ map journal_columns (entries tables.journal)

-- whether rows begin with one that has the number of the book's
abbrev pub begin_with_book : List Row → Bool
begin_with_book [] = false
begin_with_book (row ∷ rows) = is_eq (prefix_cmp plain row (Int (pos 1) ∷ []))

-- Whether the row of the book is there: of the rows of its tree from number 1 on, the first has that
-- number.
unfoldable pub has_book : Trees → Bool
has_book trees = begin_with_book (from_key plain (Int (pos 1) ∷ []) (trees 0))

-- each of the trees is sorted by its whole rows, in this transaction and in the last commit
pub record HasShapes (view : View) : Type 0 where
  pub book : view.shape 0 ≡ Index plain
  pub tariffs : view.shape 1 ≡ Index plain
  pub closes : view.shape 2 ≡ Index plain
  pub records : view.shape 3 ≡ Index plain
  pub days : view.shape 4 ≡ Index plain
  pub lines : view.shape 5 ≡ Index plain
  pub identity_index : view.shape 6 ≡ Index plain
  pub marks : view.shape 7 ≡ Index plain
  pub choices : view.shape 8 ≡ Index plain
  pub choice_name_index : view.shape 9 ≡ Index plain
  pub details : view.shape 10 ≡ Index plain
  pub credits : view.shape 11 ≡ Index plain
  pub replaced : view.shape 12 ≡ Index plain
  pub journal : view.shape 13 ≡ Index plain
  pub committed : view.committed_shape ≡ view.shape
