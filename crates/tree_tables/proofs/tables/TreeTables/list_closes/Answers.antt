use Rattle.std.specs.FinMap.{entries}
use Rattle.tree_tables.proofs.Looking.{looks_told}
use Rattle.tree_tables.proofs.Rulings.{closes_said}
use Rattle.tree_tables.proofs.tables.TreeTables.list_closes.Goals as goal

pub returns : goal.returns
returns g c = record {
  looks = looks_told c.list_all.result (c.list_all.ensures.looks _ (λ tables holds. holds.closes))
      (λ tables all. closes_said (entries tables.closes) all.items);
}
