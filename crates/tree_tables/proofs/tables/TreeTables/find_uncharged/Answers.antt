use Rattle.std.proofs.Common.{false, true}
use Rattle.tree_tables.proofs.IdentityLooks.{shows, uncharged_none, uncharged_read}
use Rattle.tree_tables.proofs.Looking.{looks_found, looks_read}
use Rattle.tree_tables.proofs.tables.TreeTables.find_uncharged.Goals as goal

-- no mark is from there on
pub returns-then-not-branch : goal.returns-then-not-branch
returns-then-not-branch g c = record {
  looks = looks_found g.S.Store c.first_from.ensures.quiet c.in_ok-first_from.ensures.same
      (λ clean tables holds. uncharged_none c.args.from.now tables c.first_from.new.row
      (shows c.args.from.now tables.records _ c.uncharged_key.new.key c.first_from.new.row false
      holds.marks c.in_ok-uncharged_key.ensures.made
      (rw c.if-not-branch.true at (c.in_ok-first_from.ensures.found clean))));
}

-- the first one is read
pub returns : goal.returns
returns g c =
    let from = c.args.from.now in
    let row = c.first_from.new.row in
    record {
      looks = looks_read g.S.Store c.read_uncharged.result c.first_from.ensures.quiet
          c.in_ok-first_from.ensures.same c.read_uncharged.ensures.says
          (λ read says clean tables holds. uncharged_read from tables row
          (shows from tables.records _ c.uncharged_key.new.key row true holds.marks
          c.in_ok-uncharged_key.ensures.made
          (rw c.if-not-branch.false at (c.in_ok-first_from.ensures.found clean))) read says);
    }
