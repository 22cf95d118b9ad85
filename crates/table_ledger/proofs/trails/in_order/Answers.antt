use Rattle.std.proofs.Common.{rules}
use Rattle.std.proofs.lemmas.List.Sorted.{answers_always}
use Rattle.table_ledger.proofs.trails.in_order.Goals as goal

pub returns : goal.returns
returns c = record {
  same = c.sort_by_key.ensures.permutation;
  in_order = c.in_ok-sort_by_key.ensures.sorted (λ choice. choice.number)
      (answers_always _ _ _ (λ f a r g h. search rules));
}
