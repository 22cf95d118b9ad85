use Rattle.std.specs.Prelude.{IfSome}
use Rattle.book_lists.proofs.CursorLemmas.{FoldsSoFar}
use Rattle.book_lists.proofs.folds.fold.Given as goal

-- the next item is sound, and those before it are in the state
abbrev pub invariant-items : goal.invariant-items
invariant-items g l = record {
  sound : IfSome l.next (g.C.Cursor.IsSound);
  far : FoldsSoFar (g.C.Cursor.shown) (g.C.Cursor.all l.cursor) (g.C.Cursor.asked l.cursor)
      (g.met.C.Cursor.in_turn l.cursor) (g.S.Step.Has l.step)
      (g.L.Ledger.seen l.fn.ledger) (g.L.Ledger.seen l.ledger) l.before l.next l.state;
}
