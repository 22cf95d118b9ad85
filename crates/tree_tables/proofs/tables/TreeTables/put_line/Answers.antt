use Rattle.tree_tables.proofs.LineRows.{line_put}
use Rattle.tree_tables.proofs.Looking.{does_alone}
use Rattle.tree_tables.proofs.tables.TreeTables.put_line.Goals as goal

pub returns : goal.returns
returns g c = record {
  does = does_alone g.S.Store c.put_row.result c.put_row.ensures.quiet c.put_row.ensures.kept
      c.put_row.ensures.puts
      (λ clean puts. line_put c.args.spot.now.period c.args.spot.now.name.now c.args.plus puts
      c.in_ok-line_key.ensures.made c.in_ok-line_row.ensures);
}
