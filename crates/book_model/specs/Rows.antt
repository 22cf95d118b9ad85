-- Charge rows: the sums of what records cost, by day, centre and shift.
use Rattle.std.specs.Prelude.{Bool, ◌&&◌, ◌<◌, ◌^◌, All, List, map, filter, length, sum_by}
use Rattle.book_model.specs.Std.{Ordering, int_cmp, int_eq, ordering_then}
use Rattle.smf_text.specs.Day.{IsDay}
use Rattle.tariff_rules.specs.declared.priced.Priced.{Priced}
use Rattle.book_model.specs.declared.row.RowKey.{RowKey}
use Rattle.book_model.specs.declared.row.ChargeRow.{ChargeRow}
use Rattle.book_model.specs.Sets.{set_of, members}
use Rattle.book_model.specs.Records.{Records, by_bytes, same_bytes}
use Rattle.book_model.specs.Rulings.{Rulings, prices}

-- where a record is charged
abbrev pub key_of : Priced → RowKey
key_of priced = record { day = priced.day; centre = priced.centre; shift = priced.shift }

-- by day, then centre, then shift
abbrev pub by_key : RowKey → RowKey → Ordering
by_key a b =
    ordering_then (int_cmp a.day b.day)
    (ordering_then (by_bytes a.centre b.centre) (by_bytes a.shift b.shift))

-- they are one place
abbrev pub same_key : RowKey → RowKey → Bool
same_key a b = int_eq a.day b.day && (same_bytes a.centre b.centre && same_bytes a.shift b.shift)

-- those that are charged at one place
abbrev pub charged_at : List Priced → RowKey → List Priced
charged_at priced key = filter (λ one. same_key (key_of one) key) priced

-- their number and their sums
abbrev pub row_at : List Priced → RowKey → ChargeRow
row_at priced key = record {
  day = key.day;
  centre = key.centre;
  shift = key.shift;
  count = length (charged_at priced key);
  cpu = sum_by (λ one. one.cpu) (charged_at priced key);
  blocks = sum_by (λ one. one.excp) (charged_at priced key);
  amount = sum_by (λ one. one.amount) (charged_at priced key);
}

-- the places where something is charged, each once and in order
abbrev pub keys_of : List Priced → List RowKey
keys_of priced = members (set_of by_key (map key_of priced))

-- where a row is charged
abbrev pub row_key : ChargeRow → RowKey
row_key row = record { day = row.day; centre = row.centre; shift = row.shift }

-- a row for each of them
abbrev pub rows_of : List Priced → List ChargeRow
rows_of priced = map (row_at priced) (keys_of priced)

-- prices with sums that fit 64 bits
pub record FitSums (priced : List Priced) : Type 0 where
  pub cpu : sum_by (λ one. one.cpu) priced < 2 ^ 64
  pub blocks : sum_by (λ one. one.excp) priced < 2 ^ 64
  pub amount : sum_by (λ one. one.amount) priced < 2 ^ 64

-- the rows for some records, with what they cost
abbrev pub rows_for : Rulings → Records → List ChargeRow
rows_for rulings counted = rows_of (prices rulings counted)

-- rows that a statement can show: they are dated on days, and their totals fit 64 bits
pub record AreRows (rows : List ChargeRow) : Type 0 where
  pub days : All (λ row. IsDay row.day) rows
  pub count : sum_by (λ row. row.count) rows < 2 ^ 64
  pub cpu : sum_by (λ row. row.cpu) rows < 2 ^ 64
  pub blocks : sum_by (λ row. row.blocks) rows < 2 ^ 64
  pub amount : sum_by (λ row. row.amount) rows < 2 ^ 64
