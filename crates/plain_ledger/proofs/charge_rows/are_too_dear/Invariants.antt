use Rattle.std.proofs.Common.{◌≡◌, ◌≤◌, take, sum_by}
use Rattle.book_model.specs.Words.{Priced, most_cost}
use Rattle.plain_ledger.proofs.charge_rows.are_too_dear.Given as goal

-- what the prices so far come to, which the books hold
abbrev pub invariant-loop-priced : goal.invariant-loop-priced
invariant-loop-priced l = record {
  sum : l.cost ≡ sum_by (λ (one : Priced). one.amount) (take l.priced-index l.prices);
  small : l.cost ≤ most_cost;
}
