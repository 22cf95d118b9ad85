use Rattle.sqlite_trees.specs.View.{IsClean}
use Rattle.book_audit.specs.Looks.{IsLook}
use Rattle.book_audit.specs.Records.{GoesBack}
use Rattle.book_audit.proofs.marks.past_of.Given as goal

-- the lines so far turn what was charged
abbrev pub invariant-loop-back : goal.invariant-loop-back
invariant-loop-back g l = record {
  looks : IsLook g.S.Store l.fn.trees.store l.trees.store;
  back : IsClean (g.S.Store.view l.trees.store)
      → GoesBack ((g.S.Store.view l.fn.trees.store).trees 5) l.name l.last l.back l.charged l.now;
}
