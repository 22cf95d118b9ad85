use Rattle.std.proofs.Common.{◌≡◌, List, map}
use Rattle.sqlite_trees.specs.View.{IsClean}
use Rattle.book_audit.specs.Records.{AreEntries, Counts, Takes, Told, counted_prices, told_row}
use Rattle.book_audit.specs.Looks.{IsLook}
use Rattle.book_audit.specs.Walks.{HasWalked}
use Rattle.book_audit.specs.declared.finding.Tree.TheVariants.{Records}
use Rattle.book_audit.proofs.records.read_records.Given as goal

-- the rows so far are those of records that are right
abbrev pub invariant-records : goal.invariant-records
invariant-records g l = record {
  tree : l.walk.tree ≡ Records;
  looks : IsLook g.S.Store l.fn.trees.store l.trees.store;
  read : IsClean (g.S.Store.view l.trees.store) → (entries : List Told)
      × HasWalked Records l.walk.key ((g.S.Store.view l.fn.trees.store).trees 3)
      (map told_row entries)
      × AreEntries (g.S.Store.view l.fn.trees.store).trees l.rulings l.records l.amount entries
      × Counts l.fn.places.rows.entries l.places.rows.entries (counted_prices entries)
      × Takes l.fn.due.left.items l.due.left.items entries;
}
