use Rattle.tree_tables.proofs.DayRows.{day_gone}
use Rattle.tree_tables.proofs.Looking.{does_alone}
use Rattle.tree_tables.proofs.tables.TreeTables.drop_day.Goals as goal

pub returns : goal.returns
returns g c = record {
  does = does_alone g.S.Store c.remove_row.result c.remove_row.ensures.quiet
      c.remove_row.ensures.kept c.remove_row.ensures.done
      (λ clean gone. day_gone c.args.day.now.period c.args.day.now.row gone
      (rw c.from.ensures at c.in_ok-stored_row.ensures));
}
