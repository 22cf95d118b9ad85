use Rattle.std.proofs.Common.{◌≡◌, true, false, arith, rules, length-append}
use Rattle.tree_rows.specs.Runs.{has_part}
use Rattle.tree_rows.proofs.Calls.{quiet_both, schema_both, unchanged_but, unchanged_on}
use Rattle.tree_rows.proofs.RunsRead.{starts, reads_on}
use Rattle.tree_rows.proofs.RunsRead.{ends_full, ends_with_rows, ends_before}
use Rattle.tree_rows.proofs.listing.list_first.Goals as goal

-- at first nothing is read, and the cursor is before the run
pub rows-init : goal.rows-init
rows-init g c = record {
  live = search rules;
  few = search rules;
  read = λ clean.
      let old = g.S.Store.view c.args.store.now in
      let now = g.S.Store.view c.seek.new.self in
      let placed = rw (c.requires (omega (arith, clean, c.seek.ensures.quiet.clean)))
      at (c.in_ok-seek.ensures.ok clean) in
      rw c.new-all.ensures.items
      (starts g.T.ReadRow.says c.args.part.now (old.trees c.args.tree) old now placed);
  same = λ clean. unchanged_but (g.S.Store.view c.args.store.now) (c.in_ok-seek.ensures.ok clean);
  schema = c.seek.ensures.schema;
  quiet = c.seek.ensures.quiet;
}

-- a row of the run is read
pub rows-preserved : goal.rows-preserved
rows-preserved g c = record {
  live = search rules;
  few = rw c.in_ok-push.ensures.items (simp length-append (omega arith));
  read = λ clean.
      let before = g.S.Store.view c.rows.store in
      let now = g.S.Store.view c.next.new.self in
      let so_far = c.rows.invariant.read (omega (arith, clean, c.next.ensures.quiet.clean)) in
      let it = rw c.if-not-branch.false at (c.in_ok-next.ensures.ok clean) in
      let begins : has_part c.args.part.now c.next.new.row ≡ true = search rules in
      rw c.in_ok-push.ensures.items (reads_on g.T.ReadRow.says c.args.part.now _ before now
      c.next.new.row c.rows.all.items c.in_ok-one.one so_far it begins c.in_ok-one.ensures.read);
  same = unchanged_on g.S.Store c.args.store.now c.rows.invariant.same c.next.ensures.quiet
      (λ clean. (c.in_ok-next.ensures.moves clean).same);
  schema = schema_both c.rows.invariant.schema c.next.ensures.schema;
  quiet = quiet_both g.S.Store c.rows.invariant.quiet c.next.ensures.quiet;
}

-- the list ends where no row is left, or the next one begins with other columns
pub returns-then-not-branch-clause-found : goal.returns-then-not-branch-clause-found
returns-then-not-branch-clause-found g c clean =
    let before = g.S.Store.view c.rows.store in
    let now = g.S.Store.view c.next.new.self in
    let so_far = c.rows.invariant.read (omega (arith, clean, c.next.ensures.quiet.clean)) in
    elim c.then-not-branch.branch [
      | goal.then-not-branch-via-then-not-branch w ↦
          let it = rw w.if-not-branch.true at (c.in_ok-next.ensures.ok clean) in
          ends_with_rows g.T.ReadRow.says c.args.part.now _ before now
          c.next.new.row c.rows.all.items c.args.most so_far it c.rows.invariant.few
      | goal.then-not-branch-via-else-not-branch+then-not-has_key w ↦
          let it = rw w.if-not-branch.false at (c.in_ok-next.ensures.ok clean) in
          let other : has_part c.args.part.now c.next.new.row ≡ false = search rules in
          ends_before g.T.ReadRow.says c.args.part.now _ before now
          c.next.new.row c.rows.all.items c.args.most so_far it other c.rows.invariant.few
    ]

-- the list has as many values as are asked for
pub returns-clause-found : goal.returns-clause-found
returns-clause-found g c clean =
    ends_full g.T.ReadRow.says c.args.part.now _ (g.S.Store.view c.rows.store) c.rows.all.items
    c.args.most (c.rows.invariant.read clean) (omega (arith, c.len.ensures, c.rows-test.false))
    c.rows.invariant.few
