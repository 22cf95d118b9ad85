-- Details as they are read from the tables: of the records that are counted, those of a period are
-- dated on its days. No line is looked for.
use Rattle.std.specs.Prelude.{◌≡◌, ℕ, Bool, true, false, ◌&&◌, List, map, filter, Option, Some}
use Rattle.std.specs.Prelude.{None, Result}
use Rattle.book_model.specs.Std.{contains_key, entries, get, is_lt}
use Rattle.book_model.specs.declared.detail.Detail.{Detail}
use Rattle.book_model.specs.declared.fault.LedgerFault.{LedgerFault}
use Rattle.book_model.specs.Words.{Rulings, by_detail, comes_after, detail_with, details_asked}
use Rattle.book_model.specs.Words.{is_asked, members, next_after, set_of, is_day_of}
use Rattle.table_model.specs.Tables.{RecordRow, Tables}
use Rattle.table_model.specs.BookIn.{row_record}
use Rattle.table_model.specs.ListsRead.{of_period}

-- a record's row, under its name, as details show it
abbrev pub detail_shown : List ℕ × RecordRow → Detail
detail_shown entry = detail_with entry.0 (row_record entry.1) entry.1.priced

-- the details of all records that are counted, in order
abbrev pub details_kept : Tables → List Detail
details_kept tables =
    members (set_of by_detail (map detail_shown
    (filter (λ (entry : List ℕ × RecordRow). contains_key tables.counted entry.0)
    (entries tables.records))))

-- those of a period are those of its days
abbrev pub details_of_days : ℕ → Rulings → Tables → List Detail
details_of_days number rulings tables =
    filter (λ detail. is_day_of number rulings detail.priced.day) (details_kept tables)

-- the details of a period, of the centre that is named or of all
abbrev pub details_read :
    ℕ → Option (List ℕ) → Rulings → Tables → Result (List Detail) LedgerFault
details_read number centre rulings tables =
    of_period number rulings (details_asked centre (details_of_days number rulings tables))

-- the next of them
abbrev pub next_detail_read :
    ℕ → Option (List ℕ) → Option Detail → Rulings → Tables → Result (Option Detail) LedgerFault
next_detail_read number centre last rulings tables =
    of_period number rulings
    (next_after last (details_asked centre (details_of_days number rulings tables)))

-- a record that is counted, as details show it
pub record IsDetail (tables : Tables) (detail : Detail) : Type 0 where
  pub row : RecordRow
  pub held : get tables.records detail.name ≡ Some row
  pub counted : contains_key tables.counted detail.name ≡ true
  pub shown : detail_shown (detail.name, row) ≡ detail

-- it is one of the period, and of the centre that is named if one is, and comes after the last one
abbrev pub is_sought : ℕ → Option (List ℕ) → Option Detail → Rulings → Detail → Bool
is_sought number centre last rulings detail =
    is_day_of number rulings detail.priced.day
    && (is_asked centre detail && comes_after last detail)

-- the least of those that pass a test
pub record IsLeastDetail (test : Detail → Bool) (tables : Tables) (detail : Detail) : Type 0 where
  pub there : IsDetail tables detail
  pub passes : test detail ≡ true
  pub least : (other : Detail) → IsDetail tables other → test other ≡ true
      → is_lt (by_detail other detail) ≡ false

-- that one, if there is one
abbrev pub FindsLeast : (Detail → Bool) → Tables → Option Detail → Type 0
FindsLeast test tables None = (detail : Detail) → IsDetail tables detail → test detail ≡ false
FindsLeast test tables (Some detail) = IsLeastDetail test tables detail
