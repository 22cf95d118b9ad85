use Rattle.std.proofs.Common.{◌≡◌, take, All, sum_by}
use Rattle.book_model.specs.Words.{IsDay}
use Rattle.table_ledger.specs.TotalsFit.{TotalsFit}
use Rattle.table_ledger.proofs.charges.can_show.Given as goal

-- the rows so far are dated on days, and their sums are the totals
abbrev pub invariant-loop-row : goal.invariant-loop-row
invariant-loop-row l = record {
  days : All (λ row. IsDay row.day) (take l.row-index l.rows);
  fits : TotalsFit l.totals;
  count : l.totals.count ≡ sum_by (λ row. row.count) (take l.row-index l.rows);
  cpu : l.totals.cpu ≡ sum_by (λ row. row.cpu) (take l.row-index l.rows);
  blocks : l.totals.blocks ≡ sum_by (λ row. row.blocks) (take l.row-index l.rows);
  amount : l.totals.amount ≡ sum_by (λ row. row.amount) (take l.row-index l.rows);
}
