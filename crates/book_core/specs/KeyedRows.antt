-- Charge rows while they are summed up, one price at a time.
use Rattle.std.specs.Prelude.{◌+◌, List, map}
use Rattle.book_model.specs.declared.row.ChargeRow.{ChargeRow}
use Rattle.book_model.specs.declared.row.RowKey.{RowKey}
use Rattle.book_model.specs.Words.{Priced, keys_of, row_at}

-- the rows of some prices, each under its key
abbrev pub keyed_rows : List Priced → List (RowKey × ChargeRow)
keyed_rows priced = map (λ key. (key, row_at priced key)) (keys_of priced)

-- a row with one more price
abbrev pub with_price : ChargeRow → Priced → ChargeRow
with_price row one = record row {
  count = row.count + 1;
  cpu = row.cpu + one.cpu;
  blocks = row.blocks + one.excp;
  amount = row.amount + one.amount;
}
