use Rattle.std.specs.FinMap.{entries}
use Rattle.tree_tables.proofs.Looking.{looks_told}
use Rattle.tree_tables.proofs.Rulings.{tariffs_said}
use Rattle.tree_tables.proofs.tables.TreeTables.list_tariffs.Goals as goal

pub returns : goal.returns
returns g c = record {
  looks = looks_told c.list_all.result (c.list_all.ensures.looks _ (λ tables holds. holds.tariffs))
      (λ tables all. tariffs_said (entries tables.tariffs) all.items);
}
