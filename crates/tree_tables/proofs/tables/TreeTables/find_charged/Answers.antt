use Rattle.tree_tables.proofs.ChargedRows.{charged_is, charged_none, name_looked}
use Rattle.tree_tables.proofs.Looking.{looks_also, looks_found}
use Rattle.tree_tables.proofs.tables.TreeTables.find_charged.Goals as goal

-- no record of the identity is charged
pub returns-then-not-branch : goal.returns-then-not-branch
returns-then-not-branch g c = record {
  looks = looks_found g.S.Store c.find_mark.ensures.quiet c.in_ok-find_mark.ensures.same
      (λ clean tables holds. charged_none tables c.args.identity.now c.find_mark.new.self.row
      holds.marks (rw c.if-not-branch.true at (c.in_ok-find_mark.ensures.found clean)));
}

-- the record of the name is read
pub returns : goal.returns
returns g c =
    let named = name_looked g.S.Store c.args.self.now.store c.find_mark.new.self.store
    c.args.identity.now c.in_ok-name.name c.find_mark.new.self.row c.find_mark.ensures.quiet
    c.in_ok-find_mark.ensures.same
    (λ clean. rw c.if-not-branch.false at (c.in_ok-find_mark.ensures.found clean))
    c.in_ok-name.ensures.read in
    record {
      looks = looks_also named c.in_ok-record_named.ensures.looks
          (λ tables names found. charged_is tables c.args.identity.now c.in_ok-name.name names
          c.in_ok-record_named.field-0 found);
    }
