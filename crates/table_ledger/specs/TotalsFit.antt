-- Sums of charge rows that 64 bits hold.
use Rattle.std.specs.Prelude.{◌<◌, ◌+◌, ◌^◌}
use Rattle.tariff_rules.specs.declared.priced.Priced.{Priced}
use Rattle.book_model.specs.declared.row.ChargeRow.{ChargeRow}
use Rattle.table_ledger.specs.declared.charges.Totals.{Totals}

-- each of the sums
pub record TotalsFit (totals : Totals) : Type 0 where
  pub count : totals.count < 2 ^ 64
  pub cpu : totals.cpu < 2 ^ 64
  pub blocks : totals.blocks < 2 ^ 64
  pub amount : totals.amount < 2 ^ 64

-- and each with one more row
pub record FitsMore (totals : Totals) (row : ChargeRow) : Type 0 where
  pub count : totals.count + row.count < 2 ^ 64
  pub cpu : totals.cpu + row.cpu < 2 ^ 64
  pub blocks : totals.blocks + row.blocks < 2 ^ 64
  pub amount : totals.amount + row.amount < 2 ^ 64

-- each sum of a row with one more price
pub record FitsPrice (row : ChargeRow) (priced : Priced) : Type 0 where
  pub count : row.count + 1 < 2 ^ 64
  pub cpu : row.cpu + priced.cpu < 2 ^ 64
  pub blocks : row.blocks + priced.excp < 2 ^ 64
  pub amount : row.amount + priced.amount < 2 ^ 64
