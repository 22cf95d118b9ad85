use Rattle.std.specs.FinMap.{entries}
use Rattle.tree_tables.proofs.CreditRows.{credits_said}
use Rattle.tree_tables.proofs.Looking.{looks_told}
use Rattle.tree_tables.proofs.tables.TreeTables.list_credits.Goals as goal

pub returns : goal.returns
returns g c = record {
  looks = looks_told c.list_all.result (c.list_all.ensures.looks _ (λ tables holds. holds.credits))
      (λ tables all. credits_said (entries tables.credits) all.items);
}
