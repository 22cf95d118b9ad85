use Rattle.std.specs.FinMap.{entries}
use Rattle.tree_tables.proofs.ChosenNames.{choices_said}
use Rattle.tree_tables.proofs.Looking.{looks_told}
use Rattle.tree_tables.proofs.tables.TreeTables.list_choices.Goals as goal

pub returns : goal.returns
returns g c = record {
  looks = looks_told c.list_all.result (c.list_all.ensures.looks _ (λ tables holds. holds.choices))
      (λ tables all. choices_said (entries tables.choices) all.items);
}
