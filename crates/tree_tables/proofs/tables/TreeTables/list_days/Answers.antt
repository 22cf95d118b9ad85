use Rattle.std.proofs.Common.{◌∙◌, ap, map}
use Rattle.tree_tables.specs.declared.day_rows.StoredDay.{StoredDay}
use Rattle.tree_tables.proofs.DayRows.{days_read}
use Rattle.tree_tables.proofs.Looking.{looks_read}
use Rattle.tree_tables.proofs.tables.TreeTables.list_days.Goals as goal

pub returns : goal.returns
returns g c = record {
  looks = looks_read g.S.Store c.charges.result c.list_run.ensures.quiet
      c.in_ok-days.ensures.same c.charges.ensures.made
      (λ list made clean tables holds. made
      ∙ ap (map (λ (day : StoredDay). day.charge)) c.deref.ensures.value
      ∙ days_read c.args.period tables
      ((g.S.Store.view c.args.self.now.store).trees 4) c.period_key.new.key
      c.in_ok-days.days.items holds.days holds.placed
      c.in_ok-period_key.ensures.made (c.in_ok-days.ensures.found clean));
}
