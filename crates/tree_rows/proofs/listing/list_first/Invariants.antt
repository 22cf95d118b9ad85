use Rattle.std.proofs.Common.{◌-◌, ◌≤◌, IsSome, length}
use Rattle.sqlite_trees.specs.View.{IsClean, KeepsSchema}
use Rattle.tree_rows.specs.Calls.{CommitsNothing, OnlyLooks}
use Rattle.tree_rows.specs.declared.listing.TheConstants.{LIST}
use Rattle.tree_rows.proofs.RunsRead.{HasRead}
use Rattle.tree_rows.proofs.listing.list_first.Given as goal

-- the start of the run is read, and the cursor has the rest of it
abbrev pub invariant-rows : goal.invariant-rows
invariant-rows g l =
    let old = g.S.Store.view l.fn.store in
    let now = g.S.Store.view l.store in
    record {
      live : IsSome (now.cursors LIST);
      few : length l.all.items ≤ l.most;
      read : IsClean now → HasRead g.T.ReadRow.says l.part (old.trees l.tree) now l.all.items;
      same : OnlyLooks g.S.Store l.fn.store l.store;
      schema : KeepsSchema old now;
      quiet : CommitsNothing g.S.Store l.fn.store l.store;
    }

-- the rows that are still to be read
abbrev pub decreases-rows : goal.decreases-rows
decreases-rows g l = l.most - length l.all.items
