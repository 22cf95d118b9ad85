use Rattle.tree_tables.proofs.EntryRows.{entry_found, entry_missing}
use Rattle.tree_tables.proofs.Looking.{looks_found}
use Rattle.tree_tables.proofs.tables.TreeTables.find_entry.Goals as goal

-- no row has the number
pub returns-then-not-branch : goal.returns-then-not-branch
returns-then-not-branch g c = record {
  looks = looks_found g.S.Store c.find_row.ensures.quiet c.in_ok-find_row.ensures.same
      (λ clean tables holds. entry_missing c.args.number tables holds.journal
      c.in_ok-entry_key.ensures.made (c.in_ok-find_row.ensures.found clean) c.if-not-branch.true);
}

-- the row of the number is read
pub returns : goal.returns
returns g c = record {
  looks = looks_found g.S.Store c.find_row.ensures.quiet c.in_ok-find_row.ensures.same
      (λ clean tables holds. entry_found c.args.number tables holds.journal
      c.in_ok-entry_key.ensures.made (c.in_ok-find_row.ensures.found clean)
      c.in_ok-read_entry.field-0 c.if-not-branch.false c.in_ok-read_entry.ensures.says);
}
