use Rattle.tree_tables.proofs.LastNumbers.{number_none, number_read}
use Rattle.tree_tables.proofs.Layouts.{replaced_layout}
use Rattle.tree_tables.proofs.Looking.{looks_found, looks_read}
use Rattle.tree_tables.proofs.tables.TreeTables.last_replaced.Goals as goal

-- there is no tariff that was replaced
pub returns-then-not-branch : goal.returns-then-not-branch
returns-then-not-branch g c = record {
  looks = looks_found g.S.Store c.last_row.ensures.quiet c.in_ok-last_row.ensures.same
      (λ clean tables holds.
      number_none (replaced_layout.rest 0) tables.replaced _ c.last_row.new.row holds.replaced
      (rw c.if-not-branch.true at (c.in_ok-last_row.ensures.found clean)));
}

-- the number of the last one is read
pub returns : goal.returns
returns g c = record {
  looks = looks_read g.S.Store c.number_at.result c.last_row.ensures.quiet
      c.in_ok-last_row.ensures.same c.number_at.ensures.read
      (λ number says clean tables holds.
      number_read (replaced_layout.rest 0) tables.replaced _ c.last_row.new.row holds.replaced number
      (rw c.if-not-branch.false at (c.in_ok-last_row.ensures.found clean)) says);
}
