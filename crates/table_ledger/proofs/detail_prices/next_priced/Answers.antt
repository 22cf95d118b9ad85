use Rattle.tree_tables.proofs.Looking.{looks_also}
use Rattle.table_ledger.proofs.TryLemmas.{looks_known, saw_found}
use Rattle.table_ledger.proofs.detail_prices.next_priced.Goals as goal

-- none is left
pub returns-in_default : goal.returns-in_default
returns-in_default g c = record {
  looks = looks_known (saw_found (rw c.in_default.is at c.in_ok-detail.ensures.looks))
      (λ tables none. none);
}

pub returns : goal.returns
returns g c = record {
  looks = looks_also (rw c.in-Some.is at c.in_ok-detail.ensures.looks) c.in_ok-priced.ensures.looks
      (λ tables next price. record { least = next; price = price });
}
