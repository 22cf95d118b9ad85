use Rattle.tree_tables.proofs.Looking.{looks_found}
use Rattle.tree_tables.proofs.Prices.{next_none, next_some}
use Rattle.tree_tables.proofs.tables.TreeTables.find_next.Goals as goal

-- no record is left
pub returns-then-not-branch : goal.returns-then-not-branch
returns-then-not-branch g c = record {
  looks = looks_found g.S.Store c.first_past.ensures.quiet c.in_ok-first_past.ensures.same
      (λ clean tables holds. next_none tables c.args.last c.first_past.new.row holds.records
      c.in_ok-walk_key.ensures.made
      (rw c.if-not-branch.true at (c.in_ok-first_past.ensures.found clean)));
}

-- the row of the next one is read
pub returns : goal.returns
returns g c = record {
  looks = looks_found g.S.Store c.first_past.ensures.quiet c.in_ok-first_past.ensures.same
      (λ clean tables holds. next_some tables c.args.last c.first_past.new.row holds.records
      c.in_ok-walk_key.ensures.made c.in_ok-read_record.field-0
      (rw c.if-not-branch.false at (c.in_ok-first_past.ensures.found clean))
      c.in_ok-read_record.ensures.read);
}
