-- What is found out about a period, and about its records by another tariff, in a walk over all
-- records.
use Rattle.std.specs.Prelude.{◌≡◌, ◌≤◌, ◌<◌, ◌++◌, ◌∷◌, [], ℕ, Bool, true, false, ◌&&◌, List}
use Rattle.std.specs.Prelude.{filter, MatchOption, Ok, Err, Option, Vec, sum_by}
use Rattle.std.specs.BTreeMap.{get}
use Rattle.std.specs.Global.{Global}
use Rattle.sqlite_value.specs.Order.{Row}
use Rattle.book_model.specs.Std.{entries}
use Rattle.book_model.specs.declared.fault.LedgerFault.TheVariants.{Full}
use Rattle.book_model.specs.declared.row.ChargeRow.{ChargeRow}
use Rattle.book_model.specs.Words.{Priced, Rulings, Terms, by_bytes, is_between, most_cost}
use Rattle.book_model.specs.Words.{rows_if_room}
use Rattle.book_core.specs.Words.{keyed_rows}
use Rattle.table_model.specs.Words.{Tables, charged_before_lines, is_row_counted, row_costs}
use Rattle.table_model.specs.Tables.{CameTable}
use Rattle.table_model.specs.Words.{NamedRow}
use Rattle.tree_tables.specs.Columns.{record_columns}
use Rattle.tree_tables.specs.Stored.{mark_of}
use Rattle.tree_tables.specs.declared.stored_record.RecordMark.{RecordMark}
use Rattle.table_ledger.specs.declared.count_test.CountTest.{CountTest}
use Rattle.table_ledger.specs.declared.row_sums.RowSums.{RowSums}

-- a test of a record's mark: its day is between the two closes, and it was charged before the lines
abbrev pub passes_mark : CountTest → RecordMark → Bool
passes_mark test mark =
    is_between test.last test.through mark.day
    && charged_before_lines (get by_bytes test.lines mark.name) mark.charged

-- of its row
abbrev pub passes : CountTest → NamedRow → Bool
passes test entry = passes_mark test (mark_of entry)

-- it is the test of which records a period counts
abbrev pub IsTestOf : ℕ → Rulings → Tables → CountTest → Type 0
IsTestOf number rulings tables test =
    (entry : NamedRow) → passes test entry ≡ is_row_counted number rulings tables.lines entry

-- what some records cost
abbrev pub Costs : Type 0
Costs = List Priced

-- the sums are those of what some records cost
pub record AreSumsOf (sums : RowSums) (costs : List Priced) : Type 0 where
  pub rows : sums.rows.entries ≡ keyed_rows costs
  pub cost : sums.cost ≡ sum_by (λ one. one.amount) costs
  pub small : sums.cost ≤ most_cost

-- they are, where there is room; else the costs are too dear
abbrev pub SumsUp : RowSums → List Priced → Bool → Type 0
SumsUp sums costs true = AreSumsOf sums costs
SumsUp sums costs false = most_cost < sum_by (λ one. one.amount) costs

-- what the records that pass a test cost by a tariff
abbrev pub costs_of : Terms → CountTest → List NamedRow → List Priced
costs_of terms test rows = row_costs terms (filter (passes test) rows)

-- The record of a row joins the sums of some others, where it is counted: with it they are the sums
-- of all of them, or there is no room.
abbrev pub JoinsSums : Terms → CountTest → Row → RowSums → RowSums → Bool → Type 0
JoinsSums terms test row old new room =
    (passed : List NamedRow) (came : CameTable) (entry : NamedRow) → row ≡ record_columns came entry
    → SumsUp old (costs_of terms test passed) true
    → SumsUp new (costs_of terms test (passed ++ entry ∷ [])) room

-- the charge rows of costs, or none where they are too dear
abbrev pub AreRowsOf : List Priced → Option (Vec ChargeRow Global) → Type 0
AreRowsOf costs found =
    MatchOption found (rows_if_room costs ≡ Err Full) (λ rows. rows_if_room costs ≡ Ok rows.items)

-- of the records that pass a test, by a tariff
abbrev pub FindsRowsUnder : Terms → CountTest → Tables → Option (Vec ChargeRow Global) → Type 0
FindsRowsUnder terms test tables found =
    AreRowsOf (costs_of terms test (entries tables.records)) found
