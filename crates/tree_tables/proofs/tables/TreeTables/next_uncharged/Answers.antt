use Rattle.tree_tables.proofs.Looking.{looks_also, looks_found}
use Rattle.tree_tables.proofs.UnchargedLeft.{uncharged_looked, uncharged_none, uncharged_past}
use Rattle.tree_tables.proofs.UnchargedLeft.{uncharged_some}
use Rattle.tree_tables.proofs.tables.TreeTables.next_uncharged.Goals as goal

-- no mark is left
pub returns-then-not-branch : goal.returns-then-not-branch
returns-then-not-branch g c = record {
  looks = looks_found g.S.Store c.first_from.ensures.quiet c.in_ok-first_from.ensures.same
      (λ clean tables holds. uncharged_none c.args.last.now tables c.first_from.new.row holds.marks
      c.in_ok-mark_key.ensures.made
      (rw c.if-not-branch.true at (c.in_ok-first_from.ensures.found clean)));
}

-- the marks that are left are those of charged records
pub returns-in_default : goal.returns-in_default
returns-in_default g c = record {
  looks = looks_found g.S.Store c.first_from.ensures.quiet c.in_ok-first_from.ensures.same
      (λ clean tables holds. uncharged_past c.args.last.now tables c.first_from.new.row holds.marks
      c.in_ok-mark_key.ensures.made
      (rw c.if-not-branch.false at (c.in_ok-first_from.ensures.found clean))
      (rw c.in_default.is at c.in_ok-name.ensures.says));
}

-- the record of the name is read
pub returns : goal.returns
returns g c =
    let last = c.args.last.now in
    let named = uncharged_looked g.S.Store c.args.self.now.store c.first_from.new.store last
    c.mark_key.new.key c.first_from.new.row c.in-Some.name c.first_from.ensures.quiet
    c.in_ok-first_from.ensures.same c.in_ok-mark_key.ensures.made
    (λ clean. rw c.if-not-branch.false at (c.in_ok-first_from.ensures.found clean))
    (rw c.in-Some.is at c.in_ok-name.ensures.says) in
    record {
      looks = looks_also named c.in_ok-record_named.ensures.looks
          (λ tables next found. uncharged_some last tables c.in-Some.name next
          c.in_ok-record_named.field-0 found);
    }
