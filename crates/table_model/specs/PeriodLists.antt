-- What is read back from the tables.
use Rattle.std.specs.Prelude.{◌≡◌, ℕ, true, false, Bool, List, map, All, Option, filter_map}
use Rattle.std.specs.Prelude.{option_map}
use Rattle.std.specs.FinMap.{get}
use Rattle.book_model.specs.declared.line.Line.{Line}
use Rattle.book_model.specs.declared.row.ChargeRow.{ChargeRow}
use Rattle.book_model.specs.Words.{record_with, IsFramed, Book, by_line, line_with, Period, Records}
use Rattle.book_model.specs.Words.{set_of, members, has, IsUsageRecord}
use Rattle.table_model.specs.PeriodRows.{rows_under}
use Rattle.table_model.specs.Tables.{RecordTable, DayTable, Tables}

-- the charge rows of a period, by place
abbrev pub rows_read : ℕ → DayTable → List ChargeRow
rows_read number days = map (λ row. row.1) (rows_under number days)

-- a line, with what the row of its record says
abbrev pub line_read : RecordTable → (ℕ × List ℕ) × Bool → Option Line
line_read records row =
    option_map (λ found. line_with row.1 row.0.1 (record_with found.data_bytes) found.priced)
    (get records row.0.1)

-- the adjustment lines of a period, by day, then name
abbrev pub lines_read : ℕ → Tables → List Line
lines_read number tables =
    members (set_of by_line
    (filter_map (line_read tables.records) (rows_under number tables.lines)))

-- records that are known by their data: each has the descriptor of its data
abbrev pub AreFramed : Records → Type 0
AreFramed records = (bytes : List ℕ) → has records bytes ≡ true → IsFramed bytes

-- records that measure work
abbrev pub AreUsage : Records → Type 0
AreUsage records = (bytes : List ℕ) → has records bytes ≡ true → IsUsageRecord bytes

-- the period reverses no record that it adds
abbrev pub IsApart : Period → Type 0
IsApart period =
    (bytes : List ℕ) → has period.added bytes ≡ true → has period.taken bytes ≡ false

-- What reading lines rests on, besides a sound book: the records that are held are known by their
-- data, and no closed period reverses what it adds.
pub record HasLines (book : Book) : Type 0 where
  pub framed : AreFramed book.held
  pub apart : All IsApart book.past
