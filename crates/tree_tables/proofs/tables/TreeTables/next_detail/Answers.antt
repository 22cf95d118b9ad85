use Rattle.tree_tables.proofs.Looking.{looks_found}
use Rattle.tree_tables.proofs.NextDetail.{detail_none, detail_some}
use Rattle.tree_tables.proofs.tables.TreeTables.next_detail.Goals as goal

-- no detail is left
pub returns-then-not-branch : goal.returns-then-not-branch
returns-then-not-branch g c = record {
  looks = looks_found g.S.Store c.first_from.ensures.quiet c.in_ok-first_from.ensures.same
      (λ clean tables holds. detail_none tables c.args.start.now c.first_from.new.row holds.details
      c.in_ok-start_key.ensures.made
      (rw c.if-not-branch.true at (c.in_ok-first_from.ensures.found clean)));
}

-- the row of the next one is read
pub returns : goal.returns
returns g c = record {
  looks = looks_found g.S.Store c.first_from.ensures.quiet c.in_ok-first_from.ensures.same
      (λ clean tables holds. detail_some tables c.args.start.now c.first_from.new.row holds.details
      c.in_ok-start_key.ensures.made c.in_ok-read_detail.field-0
      (rw c.if-not-branch.false at (c.in_ok-first_from.ensures.found clean))
      c.in_ok-read_detail.ensures.read);
}
