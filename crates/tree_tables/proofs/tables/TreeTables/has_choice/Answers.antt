use Rattle.tree_tables.proofs.ChosenNames.{named_found}
use Rattle.tree_tables.proofs.Looking.{kept_failed, looks_alone}
use Rattle.tree_tables.proofs.tables.TreeTables.has_choice.Goals as goal

pub returns : goal.returns
returns g c = record {
  looks = looks_alone g.S.Store c.find_row.result c.find_row.ensures.quiet c.find_row.ensures.same
      (kept_failed _ _ c.find_row.result c.find_row.ensures.err) c.find_row.ensures.found
      (λ hit finds clean tables holds. named_found c.args.name.now tables hit
      holds.choice_name_index c.in_ok-bytes_key.ensures.made finds);
}
