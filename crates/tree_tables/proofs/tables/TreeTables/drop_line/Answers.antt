use Rattle.tree_tables.proofs.LineRows.{line_dropped}
use Rattle.tree_tables.proofs.Looking.{does_alone}
use Rattle.tree_tables.proofs.tables.TreeTables.drop_line.Goals as goal

pub returns : goal.returns
returns g c = record {
  does = does_alone g.S.Store c.drop_row.result c.drop_row.ensures.quiet c.drop_row.ensures.kept
      c.drop_row.ensures.drops
      (λ clean drops. line_dropped c.args.spot.now.period c.args.spot.now.name.now drops
      c.in_ok-line_key.ensures.made);
}
