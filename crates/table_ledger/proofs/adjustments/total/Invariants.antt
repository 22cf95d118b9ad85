use Rattle.std.proofs.Common.{◌≡◌, take, sum_by}
use Rattle.table_ledger.proofs.adjustments.total.Given as goal

-- the sum of the lines so far
abbrev pub invariant-loop-line : goal.invariant-loop-line
invariant-loop-line l =
    l.total ≡ sum_by (λ line. line.priced.amount) (take l.line-index l.lines)
