use Rattle.tree_tables.proofs.DayRows.{day_found, day_missing}
use Rattle.tree_tables.proofs.Looking.{looks_found}
use Rattle.tree_tables.proofs.tables.TreeTables.find_day.Goals as goal

pub returns-then-not-branch : goal.returns-then-not-branch
returns-then-not-branch g c = record {
  looks = looks_found g.S.Store c.find_row.ensures.quiet c.in_ok-find_row.ensures.same
      (λ clean tables holds. day_missing c.args.spot.now.period c.args.spot.now.place tables
      (c.in_ok-find_row.ensures.found clean) holds.days
      (rw c.from.ensures at c.in_ok-place_key.ensures)
      c.if-not-branch.true);
}

pub returns : goal.returns
returns g c = record {
  looks = looks_found g.S.Store c.find_row.ensures.quiet c.in_ok-find_row.ensures.same
      (λ clean tables holds. day_found c.args.spot.now.period c.args.spot.now.place tables
      (c.in_ok-find_row.ensures.found clean) holds.days
      (rw c.from.ensures at c.in_ok-place_key.ensures)
      c.in_ok-read_day.field-0 holds.placed c.if-not-branch.false
      c.in_ok-read_day.ensures.says);
}
