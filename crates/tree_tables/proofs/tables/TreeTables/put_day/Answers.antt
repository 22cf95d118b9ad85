use Rattle.tree_tables.proofs.DayRows.{day_added, day_changed}
use Rattle.tree_tables.proofs.Looking.{does_alone}
use Rattle.tree_tables.proofs.tables.TreeTables.put_day.Goals as goal

-- no row was found
pub returns-in_default : goal.returns-in_default
returns-in_default g c = record {
  does = does_alone g.S.Store c.add_row.result c.add_row.ensures.quiet c.add_row.ensures.kept
      c.add_row.ensures.done
      (λ clean added. day_added c.args.day.now.period c.args.day.now.row c.args.found
      c.in_default.is added (rw c.from-period.ensures at c.in_ok-stored_row.ensures));
}

-- the row that was found makes way
pub returns : goal.returns
returns g c = record {
  does = does_alone g.S.Store c.change_row.result c.change_row.ensures.quiet
      c.change_row.ensures.kept c.change_row.ensures.done
      (λ clean changes. day_changed c.args.day.now.period c.args.day.now.row c.in-Some.before
      c.args.found c.in-Some.is changes
      (rw c.from-period.ensures at c.in_ok-stored_row-2.ensures)
      (rw c.from-period.ensures at c.in_ok-stored_row.ensures));
}
