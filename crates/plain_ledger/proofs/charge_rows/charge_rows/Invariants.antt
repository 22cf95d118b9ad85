use Rattle.std.proofs.Common.{◌≡◌, take}
use Rattle.book_core.specs.KeyedRows.{keyed_rows}
use Rattle.plain_ledger.proofs.charge_rows.charge_rows.Given as goal

-- the map holds the rows of the prices so far
abbrev pub invariant-loop-priced : goal.invariant-loop-priced
invariant-loop-priced l = l.rows.entries ≡ keyed_rows (take l.priced-index l.prices)
