use Rattle.tree_tables.proofs.LineRows.{line_found, line_missing}
use Rattle.tree_tables.proofs.Looking.{looks_found}
use Rattle.tree_tables.proofs.tables.TreeTables.find_line.Goals as goal

-- no row has the period and the name
pub returns-then-not-branch : goal.returns-then-not-branch
returns-then-not-branch g c = record {
  looks = looks_found g.S.Store c.find_row.ensures.quiet c.in_ok-find_row.ensures.same
      (λ clean tables holds. line_missing c.args.spot.now.period c.args.spot.now.name.now tables
      holds.lines c.in_ok-line_key.ensures.made (c.in_ok-find_row.ensures.found clean)
      c.if-not-branch.true);
}

-- the mark of the row is read
pub returns : goal.returns
returns g c = record {
  looks = looks_found g.S.Store c.find_row.ensures.quiet c.in_ok-find_row.ensures.same
      (λ clean tables holds. line_found c.args.spot.now.period c.args.spot.now.name.now tables
      holds.lines c.in_ok-line_key.ensures.made (c.in_ok-find_row.ensures.found clean)
      c.in_ok-plus.plus c.if-not-branch.false c.in_ok-plus.ensures.read);
}
