use Rattle.std.specs.FinMap.{entries}
use Rattle.tree_tables.proofs.ReplacedRows.{all_replaced_said}
use Rattle.tree_tables.proofs.Looking.{looks_told}
use Rattle.tree_tables.proofs.tables.TreeTables.list_replaced.Goals as goal

pub returns : goal.returns
returns g c = record {
  looks = looks_told c.list_all.result (c.list_all.ensures.looks _ (λ tables holds. holds.replaced))
      (λ tables all. all_replaced_said (entries tables.replaced) all.items);
}
