use Rattle.tree_tables.proofs.LineRows.{lines_read}
use Rattle.tree_tables.proofs.Looking.{looks_alone}
use Rattle.tree_tables.proofs.detail_fill.lines_in.Goals as goal

pub returns-clause-looks : goal.returns-clause-looks
returns-clause-looks g c =
    looks_alone g.S.Store c.list_run.result c.list_run.ensures.quiet
    c.list_run.ensures.same c.list_run.ensures.kept c.list_run.ensures.found
    (λ list read clean tables holds. lines_read c.args.period tables
    ((g.S.Store.view c.args.store.now).trees 5) c.period_key.new.key list.items holds.lines
    c.in_ok-period_key.ensures.made read)
