use Rattle.std.proofs.Common.{false, true}
use Rattle.tree_tables.proofs.ArrivalRows.{arrival_none, arrival_some, shows_from}
use Rattle.tree_tables.proofs.Looking.{looks_found}
use Rattle.tree_tables.proofs.tables.TreeTables.find_arrival.Goals as goal

-- no record is from there on
pub returns-then-not-branch : goal.returns-then-not-branch
returns-then-not-branch g c = record {
  looks = looks_found g.S.Store c.first_from.ensures.quiet c.in_ok-first_from.ensures.same
      (λ clean tables holds. arrival_none tables c.args.from.now c.first_from.new.row
      (shows_from tables c.args.from.now c.first_from.new.row false holds.records
      c.in_ok-bytes_key.ensures.made
      (rw c.if-not-branch.true at (c.in_ok-first_from.ensures.found clean))));
}

-- the first one is read
pub returns : goal.returns
returns g c = record {
  looks = looks_found g.S.Store c.first_from.ensures.quiet c.in_ok-first_from.ensures.same
      (λ clean tables holds. arrival_some tables c.args.from.now c.first_from.new.row
      c.in_ok-arrival.arrival
      (shows_from tables c.args.from.now c.first_from.new.row true holds.records
      c.in_ok-bytes_key.ensures.made
      (rw c.if-not-branch.false at (c.in_ok-first_from.ensures.found clean)))
      c.in_ok-arrival.ensures.name c.in_ok-arrival.ensures.came);
}
