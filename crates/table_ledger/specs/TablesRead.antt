-- Trees that hold tables determine them, but for the names of the records that are counted, and by
-- which entries there came what is no record.
use Rattle.std.specs.Prelude.{◌≡◌, refl, Bool, true, false, ℤ, ℕ, List, [], ◌∷◌, not, Option, Some}
use Rattle.std.specs.Prelude.{None, map, ◌==◌, filter_map, option_map}
use Rattle.std.specs.List.{cons_option}
use Rattle.std.proofs.Common.{◌∙◌, ap, sym}
use Rattle.sqlite_trees.specs.Tree.{Trees}
use Rattle.sqlite_value.specs.Order.{Row, column}
use Rattle.book_model.specs.Std.{FinMap, empty, entries, from_entries, get, get-entries}
use Rattle.book_model.specs.Std.{get-from_entries, same_map, AllByRecursion, Ordering}
use Rattle.book_model.specs.Journal.{AdoptionOf, ChoiceOf, CloseOf, CreditOf, Note, ReplacementOf}
use Rattle.book_model.specs.Journal.{TariffOf}
use Rattle.book_model.specs.Words.{by_bytes}
use Rattle.book_model.specs.declared.row.ChargeRow.{ChargeRow}
use Rattle.book_model.specs.declared.row.RowKey.{RowKey}
use Rattle.table_model.specs.Tables.{CameTable, ChoiceRow, ImportRow, JournalRow, ReplacedRow}
use Rattle.table_model.specs.Tables.{RowAct, RulingRow}
use Rattle.table_model.specs.Words.{row_key, RecordRow, Tables}
use Rattle.tree_rows.specs.Layouts.{Layout, row_of, rows_of}
use Rattle.tree_tables.specs.Columns.{came_columns, choice_columns, day_columns, flag, line_columns}
use Rattle.tree_tables.specs.JournalColumns.{journal_columns}
use Rattle.tree_tables.specs.Columns.{record_columns, replaced_columns, tariff_columns}
use Rattle.tree_tables.specs.Columns.{tariff_value}
use Rattle.tree_tables.specs.Holds.{Holds}
use Rattle.tree_tables.proofs.Layouts.{choice_layout, closed_layout, credit_layout, day_layout}
use Rattle.tree_tables.proofs.EntryRows.{ending_back}
use Rattle.tree_tables.proofs.Layouts.{journal_layout, line_layout, record_layout}
use Rattle.tree_tables.proofs.Layouts.{replaced_layout, tariff_layout}
use Rattle.tree_tables.proofs.RowsRead.{all_entries}
use Rattle.table_ledger.specs.TablesIn.{tables_in, tariff_in, closed_in, record_in, day_in, line_in}
use Rattle.table_ledger.specs.TablesIn.{book_row_in, choice_in, credit_in, replaced_row_in}
use Rattle.table_ledger.specs.TablesIn.{act_in, came_in, entry_in, number_value, text_value}

-- a mark is read back
mark_back : (marked : Bool) → not (flag marked == 0) ≡ marked
mark_back true = refl
mark_back false = refl

-- and so is a text, if there is one
text_back : (text : Option (List ℕ)) → text_value (tariff_value text) ≡ text
text_back None = refl
text_back (Some text) = refl

-- each kind of row is read back from its columns: tariffs and those that were replaced,
tariff_back : (day : ℤ) (text : Option (List ℕ))
    → tariff_in (tariff_columns (day, text)) ≡ (day, text)
tariff_back day text = λ i. (day, text_back text i)

replaced_back : (number : ℕ) (row : ReplacedRow)
    → replaced_row_in (replaced_columns (number, row)) ≡ (number, row)
replaced_back number row = λ i. (number, record row { text = text_back row.text i })

-- choices,
choice_back : (number : ℕ) (row : ChoiceRow)
    → choice_in (choice_columns (number, row)) ≡ (number, row)
choice_back number row = λ i. (number, record row { counts = mark_back row.counts i })

-- records, lines,
record_back : (came : CameTable) (name : List ℕ) (row : RecordRow)
    → record_in (record_columns came (name, row)) ≡ (name, row)
record_back came name row = λ i. (
  name,
  record row { charged = mark_back row.charged i; posted = mark_back row.posted i },
)

line_back : (place : ℕ × List ℕ) (plus : Bool)
    → line_in (line_columns (place, plus)) ≡ (place, plus)
line_back place plus = λ i. (place, mark_back plus i)

-- and charge rows that are stored under their own places
day_back : (place : ℕ × RowKey) (row : ChargeRow) → row_key row ≡ place.1
    → day_in (day_columns (place, row)) ≡ (place, row)
day_back place row placed = λ i. (
  place,
  record row {
    day = (sym placed i).day;
    centre = (sym placed i).centre;
    shift = (sym placed i).shift;
  },
)

-- and so are entries of the journal: a ruling has not the word of an import,
act_back : (number : ℕ) (note : Note) (act : RowAct)
    → act_in (journal_columns (number, record { note = note; act = act })) ≡ act
act_back number note (RulingRow (TariffOf day)) = refl
act_back number note (RulingRow (CloseOf period)) = refl
act_back number note (RulingRow (ChoiceOf choice)) = refl
act_back number note (RulingRow AdoptionOf) = refl
act_back number note (RulingRow (ReplacementOf tariff)) = refl
act_back number note (RulingRow (CreditOf credit)) = refl
act_back number note (ImportRow reading ending kept) =
    ap (λ ending. ImportRow reading ending kept) (ending_back ending)

entry_back : (number : ℕ) (row : JournalRow)
    → entry_in (journal_columns (number, row)) ≡ (number, row)
entry_back number row = λ i. (number, record row { act = act_back number row.note row.act i })

-- and the number by which a record came
came_back : (found : Option ℕ) → number_value (column (came_columns found) 0) ≡ found
came_back None = refl
came_back (Some number) = refl

-- by which entries the records of the tables came
abbrev pub came_named : CameTable → List (List ℕ × RecordRow) → List (List ℕ × ℕ)
came_named came rows =
    filter_map {Y = List ℕ × ℕ} (λ (entry : List ℕ × RecordRow).
    option_map {U = List ℕ × ℕ} (λ number. (entry.0, number)) (get came entry.0)) rows

abbrev pub came_among : Tables → CameTable
came_among tables = from_entries (came_named tables.came (entries tables.records))

came_rows : (came : CameTable) (rows : List (List ℕ × RecordRow))
    → filter_map came_in (map (record_columns came) rows) ≡ came_named came rows
came_rows came [] = refl
came_rows came (entry ∷ rows) =
    let own = ap (option_map {U = List ℕ × ℕ} (λ number. (entry.0, number)))
    (came_back (get came entry.0)) in
    let rest = came_rows came rows in
    λ i. cons_option (own i) (rest i)

-- what is read back of each element of a list is the list
all_back : {X : Type 0} (columns : X → Row) (read : Row → X) (xs : List X)
    → AllByRecursion (λ x. read (columns x) ≡ x) xs → map read (map columns xs) ≡ xs
all_back columns read [] back = refl
all_back columns read (x ∷ xs) back = λ i. back.0 i ∷ all_back columns read xs back.1 i

-- a table each of whose rows is read back is determined by its rows
table_back : {K V : Type 0} {R : K → K → Ordering} (layout : Layout K V R) (read : Row → K × V)
    (table : FinMap R V)
    → ((key : K) (value : V) → get table key ≡ Some value
    → read (row_of layout (key, value)) ≡ (key, value))
    → {rows : List Row} → rows ≡ rows_of layout table
    → from_entries {R = R} (map read rows) ≡ table
table_back {R = R} layout read table back is =
    ap (λ rows. from_entries {R = R} (map read rows)) is
    ∙ ap from_entries (all_back (row_of layout) read (entries table)
    (all_entries layout.total layout.exact (λ e. read (row_of layout e) ≡ e) table back))
    ∙ same_map layout.total layout.exact (from_entries (entries table)) table (λ q.
    get-from_entries layout.total (entries table) q ∙ sym (get-entries table q))

-- and so are all of them, but for the names that are counted, and what came that is no record
pub tables_read : (trees : Trees) (tables : Tables) → Holds trees tables
    → tables_in trees ≡ record tables { counted = empty; came = came_among tables }
tables_read trees tables holds = λ i. record {
  book = ap book_row_in holds.book i;
  tariffs = table_back tariff_layout tariff_in tables.tariffs
      (λ day text there. tariff_back day text) holds.tariffs i;
  closes = table_back closed_layout closed_in tables.closes (λ number day there. refl)
      holds.closes i;
  choices = table_back choice_layout choice_in tables.choices
      (λ number row there. choice_back number row) holds.choices i;
  credits = table_back credit_layout credit_in tables.credits (λ number credit there. refl)
      holds.credits i;
  replaced = table_back replaced_layout replaced_row_in tables.replaced
      (λ number row there. replaced_back number row) holds.replaced i;
  records = table_back (record_layout tables.came) record_in tables.records
      (λ name row there. record_back tables.came name row) holds.records i;
  days = table_back day_layout day_in tables.days
      (λ place row there. day_back place row (holds.placed place row there)) holds.days i;
  lines = table_back line_layout line_in tables.lines
      (λ place plus there. line_back place plus) holds.lines i;
  counted = empty;
  journal = table_back journal_layout entry_in tables.journal
      (λ number row there. entry_back number row) holds.journal i;
  came = from_entries {R = by_bytes} ((ap (filter_map came_in) holds.records
      ∙ came_rows tables.came (entries tables.records)) i);
}
