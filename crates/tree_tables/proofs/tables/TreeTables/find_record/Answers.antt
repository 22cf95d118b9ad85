use Rattle.tree_tables.proofs.Looking.{looks_found}
use Rattle.tree_tables.proofs.Records.{record_none, record_some}
use Rattle.tree_tables.proofs.tables.TreeTables.find_record.Goals as goal

-- no row has the name
pub returns-then-not-branch : goal.returns-then-not-branch
returns-then-not-branch g c = record {
  looks = looks_found g.S.Store c.find_row.ensures.quiet c.in_ok-find_row.ensures.same
      (λ clean tables holds. record_none tables holds.records c.in_ok-bytes_key.ensures.made
      (c.in_ok-find_row.ensures.found clean) c.if-not-branch.true);
}

-- the row of the name is read
pub returns : goal.returns
returns g c = record {
  looks = looks_found g.S.Store c.find_row.ensures.quiet c.in_ok-find_row.ensures.same
      (λ clean tables holds. record_some tables holds.records c.in_ok-bytes_key.ensures.made
      (c.in_ok-find_row.ensures.found clean) c.in_ok-read_record.field-0 c.if-not-branch.false
      c.in_ok-read_record.ensures.read);
}
