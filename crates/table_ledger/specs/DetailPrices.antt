-- What records cost by another tariff, where details lead to them; and that these are the records
-- that a period counts.
use Rattle.std.specs.Prelude.{◌≡◌, ℕ, ℤ, Bool, ◌&&◌, List, filter, Option, None, Some, Vec}
use Rattle.std.specs.Global.{Global}
use Rattle.book_model.specs.Std.{contains_key, entries, get}
use Rattle.book_model.specs.Words.{Priced, Rulings, Terms, is_between, is_day_of, price_by}
use Rattle.book_model.specs.declared.row.ChargeRow.{ChargeRow}
use Rattle.table_model.specs.Words.{row_record, counted_rows, is_row_counted, row_costs, FindsLeast}
use Rattle.table_model.specs.Words.{IsLeastDetail, NamedRow, RecordRow, Tables}
use Rattle.table_ledger.specs.DetailReads.{seeks}
use Rattle.table_ledger.specs.OtherPrices.{AreRowsOf}
use Rattle.table_ledger.specs.declared.detail_prices.DetailPrice.{DetailPrice}
use Rattle.table_ledger.specs.declared.details.Sought.{Sought}

-- the record of a name, if there is one, costs this by a tariff
abbrev pub CostsNamed : Terms → List ℕ → Tables → Priced → Type 0
CostsNamed terms name tables priced =
    (row : RecordRow) → get tables.records name ≡ Some row
    → priced ≡ price_by terms (row_record row)

-- the least of the details that are sought, and what its record costs by a tariff
pub record IsNextPriced (terms : Terms) (sought : Sought) (tables : Tables) (next : DetailPrice)
    : Type 0 where
  pub least : IsLeastDetail (seeks sought) tables next.detail
  pub price : CostsNamed terms next.detail.name tables next.priced

-- so much is found of the first detail that is sought, if there is one
abbrev pub FindsPriced : Terms → Sought → Tables → Option DetailPrice → Type 0
FindsPriced terms sought tables None = FindsLeast (seeks sought) tables None
FindsPriced terms sought tables (Some next) = IsNextPriced terms sought tables next

-- a record is counted, and dated after one close and no later than another
abbrev pub is_counted_between : Option ℤ → Option ℤ → Tables → NamedRow → Bool
is_counted_between close through tables entry =
    contains_key tables.counted entry.0 && is_between close through entry.1.priced.day

-- the charge rows of these records, each of them by a tariff
abbrev pub FindsRowsOfDays : Terms → Option ℤ → Option ℤ → Tables
    → Option (Vec ChargeRow Global) → Type 0
FindsRowsOfDays terms close through tables found =
    AreRowsOf
    (row_costs terms (filter (is_counted_between close through tables) (entries tables.records)))
    found

-- a period counts the records that are counted at all and dated in it
abbrev pub CountsByDay : ℕ → Rulings → Tables → Type 0
CountsByDay number rulings tables =
    (name : List ℕ) (row : RecordRow) → get tables.records name ≡ Some row
    → is_row_counted number rulings tables.lines (name, row)
    ≡ (contains_key tables.counted name && is_day_of number rulings row.priced.day)

-- where it does, these are the charge rows of what it counts, each record by a tariff
abbrev pub FindsRowsCounted : ℕ → Rulings → Terms → Tables → Option (Vec ChargeRow Global)
    → Type 0
FindsRowsCounted number rulings terms tables found =
    CountsByDay number rulings tables
    → AreRowsOf (row_costs terms (counted_rows number rulings tables)) found
