use Rattle.std.proofs.Common.{◌≡◌, List, length}
use Rattle.sqlite_trees.specs.View.{IsClean}
use Rattle.book_model.proofs.Std.{AllByRecursion}
use Rattle.table_model.specs.Tables.{JournalRow}
use Rattle.book_audit.specs.Journal.{IsPlaced, entry_rows, kept_by_each}
use Rattle.book_audit.specs.Looks.{IsLook}
use Rattle.book_audit.specs.Walks.{HasWalked}
use Rattle.book_audit.specs.declared.finding.Tree.TheVariants.{Journal}
use Rattle.book_audit.proofs.journal.read_journal.Given as goal

-- the rows so far are those of as many entries
abbrev pub invariant-entries : goal.invariant-entries
invariant-entries g l = record {
  tree : l.walk.tree ≡ Journal;
  looks : IsLook g.S.Store l.fn.trees.store l.trees.store;
  read : IsClean (g.S.Store.view l.trees.store) → (entries : List JournalRow)
      × HasWalked Journal l.walk.key ((g.S.Store.view l.fn.trees.store).trees 13) (entry_rows entries)
      × AllByRecursion (λ entry. IsPlaced (g.S.Store.view l.fn.trees.store).trees l.rule entry.act) entries
      × (l.count ≡ length entries) × (l.due.left.items ≡ kept_by_each entries);
}
