use Rattle.std.proofs.Common.{◌≡◌, false, IfSome}
use Rattle.book_lists.proofs.WrittenListLemmas.{WritesSoFar}
use Rattle.book_lists.proofs.Words.{has_failed, writer_of}
use Rattle.book_lists.proofs.written_lists.write_list.Given as goal

-- no write failed, the next item is sound, and the parts of those before it were written or wait
abbrev pub invariant-items : goal.invariant-items
invariant-items g l = record {
  unwritten : has_failed l.sink ≡ false;
  sound : IfSome l.next g.C.Cursor.IsSound;
  far : WritesSoFar g.C.Cursor.shown (g.C.Cursor.all l.cursor) (g.C.Cursor.asked l.cursor)
      (g.met.C.Cursor.in_turn l.cursor) (g.S.Lines.above l.lines) (g.S.Lines.part l.lines)
      (g.S.Lines.below l.lines) (g.met.S.Lines.some l.lines) (g.S.Step.Has l.lines)
      (g.L.Ledger.seen l.fn.ledger) (g.L.Ledger.seen l.ledger) l.before l.next l.state
      l.waiting.items (g.W.Write.contents (writer_of l.initial.sink))
      (g.W.Write.contents (writer_of l.sink));
}
