-- Which records a period counts, and what it would have cost by another tariff, as they are read
-- from the tables. What a closed period counted is not stored; it is told from what is charged now
-- and from the lines of the later periods.
use Rattle.std.specs.Prelude.{ℕ, zero, suc, ◌-◌, Bool, not, ◌&&◌, if◌then◌else◌, List, map, filter}
use Rattle.std.specs.Prelude.{Option, None, Result, Err}
use Rattle.book_model.specs.Std.{entries, get, option_map_or, option_or}
use Rattle.book_model.specs.declared.fault.LedgerFault.{LedgerFault}
use Rattle.book_model.specs.declared.fault.LedgerFault.TheVariants.{NoSuchPeriod}
use Rattle.book_model.specs.declared.row.ChargeRow.{ChargeRow}
use Rattle.book_model.specs.Words.{Rulings, Terms, open_by, price_by, rows_if_room, Priced}
use Rattle.table_model.specs.Tables.{LineTable, RecordRow, Tables}
use Rattle.table_model.specs.BookIn.{row_record}
use Rattle.table_model.specs.ListsRead.{is_period}
pub use Rattle.book_model.specs.Details.{is_day_of}

-- The first line that a record has in some periods, of which the first has this number, if it has
-- one: whether it is a plus line.
abbrev pub first_line : LineTable → List ℕ → ℕ → ℕ → Option Bool
first_line lines name number zero = None
first_line lines name number (suc later) =
    option_or (get lines (number, name)) (first_line lines name (suc number) later)

-- A record was charged before some periods as after them, if it has no line there: before a plus
-- line it was not charged, and before a minus line it was.
abbrev pub charged_before_lines : Option Bool → Bool → Bool
charged_before_lines line charged = option_map_or not line charged

-- by the record's row, it was charged at the end of a period
abbrev pub was_charged : ℕ → Rulings → LineTable → List ℕ × RecordRow → Bool
was_charged number rulings lines entry =
    charged_before_lines (first_line lines entry.0 (suc number) (open_by rulings - number))
    entry.1.charged

-- a period counts the record of a row: it is dated in the period, and was charged at its end
abbrev pub is_row_counted : ℕ → Rulings → LineTable → List ℕ × RecordRow → Bool
is_row_counted number rulings lines entry =
    is_day_of number rulings entry.1.priced.day && was_charged number rulings lines entry

-- the rows of the records that a period counts, by name
abbrev pub counted_rows : ℕ → Rulings → Tables → List (List ℕ × RecordRow)
counted_rows number rulings tables =
    filter (is_row_counted number rulings tables.lines) (entries tables.records)

-- what the records of some rows cost by a tariff
abbrev pub row_costs : Terms → List (List ℕ × RecordRow) → List Priced
row_costs terms rows =
    map (λ (entry : List ℕ × RecordRow). price_by terms (row_record entry.1)) rows

-- the charge rows that a period would have by a tariff
abbrev pub what_if_read : ℕ → Terms → Rulings → Tables → Result (List ChargeRow) LedgerFault
what_if_read number terms rulings tables =
    if is_period number rulings
    then rows_if_room (row_costs terms (counted_rows number rulings tables))
    else Err NoSuchPeriod
