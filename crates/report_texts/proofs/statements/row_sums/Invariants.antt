use Rattle.std.proofs.Common.{◌≡◌, take, sum_by}
use Rattle.report_texts.proofs.statements.row_sums.Given as goal

-- the sums of the rows so far
abbrev pub invariant-loop-row : goal.invariant-loop-row
invariant-loop-row l = record {
  count : l.count ≡ sum_by (λ row. row.count) (take l.row-index l.rows);
  cpu : l.cpu ≡ sum_by (λ row. row.cpu) (take l.row-index l.rows);
  blocks : l.blocks ≡ sum_by (λ row. row.blocks) (take l.row-index l.rows);
  amount : l.amount ≡ sum_by (λ row. row.amount) (take l.row-index l.rows);
}
