use Rattle.tree_tables.proofs.ChoiceRows.{choice_added}
use Rattle.tree_rows.proofs.Calls.{clean_before}
use Rattle.tree_tables.proofs.Looking.{does_after}
use Rattle.tree_tables.proofs.tables.TreeTables.put_choice.Goals as goal

-- the two rows are there
pub returns : goal.returns
returns g c = record {
  does =
      let ghosts = g.S.Store in
      does_after ghosts c.add_row-2.result c.add_row.ensures.quiet
      (λ clean. (c.in_ok-add_row.ensures.done clean).only)
      c.add_row-2.ensures.quiet c.add_row-2.ensures.kept c.add_row-2.ensures.done
      (λ clean rewritten tables holds new.
      choice_added c.args.number c.args.name.now c.args.counts c.args.period
      (c.in_ok-add_row.ensures.done (clean_before ghosts c.add_row-2.ensures.quiet clean))
      rewritten c.in_ok-choice_row.ensures c.in_ok-choice_name_row.ensures holds new);
}
