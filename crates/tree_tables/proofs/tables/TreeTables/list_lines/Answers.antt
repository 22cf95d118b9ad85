use Rattle.tree_tables.proofs.LineRows.{lines_read}
use Rattle.tree_tables.proofs.Looking.{looks_alone}
use Rattle.tree_tables.proofs.tables.TreeTables.list_lines.Goals as goal

pub returns : goal.returns
returns g c = record {
  looks = looks_alone g.S.Store c.list_run.result c.list_run.ensures.quiet
      c.list_run.ensures.same c.list_run.ensures.kept c.list_run.ensures.found
      (λ list read clean tables holds. lines_read c.args.period tables
      ((g.S.Store.view c.args.self.now.store).trees 5) c.period_key.new.key list.items holds.lines
      c.in_ok-period_key.ensures.made read);
}
