use Rattle.std.proofs.Common.{refl, rules}
use Rattle.std.proofs.lemmas.Result.{err_from_is_err_and}
use Rattle.streams.specs.Sinks.{writer_of}
use Rattle.book_lists.specs.declared.fault.ReportFault.TheVariants as report
use Rattle.book_lists.proofs.ReadingLemmas.{passed_on}
use Rattle.book_lists.proofs.WrittenListLemmas.{list_begun, list_cut, list_ended, list_more}
use Rattle.book_lists.proofs.WrittenListLemmas.{list_refused, list_stopped, list_unbegun, list_unread}
use Rattle.book_lists.proofs.WrittenListLemmas.{some_cut, some_ended, some_stopped, some_unbegun}
use Rattle.book_lists.proofs.written_lists.write_list.Goals as goal

-- the first item is refused
pub returns-in_err-next-clause-written : goal.returns-in_err-next-clause-written
returns-in_err-next-clause-written g c =
    let cursor = c.args.cursor.now in
    let lines = c.args.lines.now in
    rw (passed_on c.from_residual.result c.from_residual.ensures.1)
    (list_unread g.C.Cursor.shown (g.C.Cursor.all cursor) (g.C.Cursor.asked cursor)
    (g.met.C.Cursor.in_turn cursor) (g.S.Lines.above lines) (g.S.Lines.part lines)
    (g.S.Lines.below lines) (g.met.S.Lines.some lines) _ _ c.in_err-next.field-0.0
    (g.W.Write.contents (writer_of c.args.sink.now)) c.in_err-next.ensures.item)

-- a write failed before
pub returns-then-failed-clause-written : goal.returns-then-failed-clause-written
returns-then-failed-clause-written g c =
    let cursor = c.args.cursor.now in
    let lines = c.args.lines.now in
    list_unbegun g.C.Cursor.shown (g.C.Cursor.all cursor) (g.C.Cursor.asked cursor)
    (g.met.C.Cursor.in_turn cursor) (g.S.Lines.above lines) (g.S.Lines.part lines)
    (g.S.Lines.below lines) (g.met.S.Lines.some lines) _ _ c.in_ok-next.next
    (g.W.Write.contents (writer_of c.args.sink.now)) report.Write refl c.in_ok-next.ensures.item

-- there is no memory to begin
pub returns-in_err-waiting-clause-written : goal.returns-in_err-waiting-clause-written
returns-in_err-waiting-clause-written g c =
    let cursor = c.args.cursor.now in
    let lines = c.args.lines.now in
    rw (passed_on c.from_residual-in_err-waiting.result c.from_residual-in_err-waiting.ensures.1)
    (list_unbegun g.C.Cursor.shown (g.C.Cursor.all cursor) (g.C.Cursor.asked cursor)
    (g.met.C.Cursor.in_turn cursor) (g.S.Lines.above lines) (g.S.Lines.part lines)
    (g.S.Lines.below lines) (g.met.S.Lines.some lines) _ _ c.in_ok-next.next
    (g.W.Write.contents (writer_of c.args.sink.now)) report.Memory refl c.in_ok-next.ensures.item)

pub returns-in_err-waiting-clause-some : goal.returns-in_err-waiting-clause-some
returns-in_err-waiting-clause-some g c =
    let cursor = c.args.cursor.now in
    let lines = c.args.lines.now in
    rw (passed_on c.from_residual-in_err-waiting.result c.from_residual-in_err-waiting.ensures.1)
    (some_unbegun g.C.Cursor.shown (g.C.Cursor.all cursor) (g.C.Cursor.asked cursor)
    (g.met.C.Cursor.in_turn cursor) (g.S.Lines.above lines) (g.S.Lines.part lines)
    (g.S.Lines.below lines) (g.met.S.Lines.some lines)
    (g.W.Write.contents (writer_of c.args.sink.now)) report.Memory)

pub returns-in_err-state-clause-written : goal.returns-in_err-state-clause-written
returns-in_err-state-clause-written g c =
    let cursor = c.args.cursor.now in
    let lines = c.args.lines.now in
    rw (passed_on c.from_residual-in_err-state.result c.from_residual-in_err-state.ensures.1)
    (list_unbegun g.C.Cursor.shown (g.C.Cursor.all cursor) (g.C.Cursor.asked cursor)
    (g.met.C.Cursor.in_turn cursor) (g.S.Lines.above lines) (g.S.Lines.part lines)
    (g.S.Lines.below lines) (g.met.S.Lines.some lines) _ _ c.in_ok-next.next
    (g.W.Write.contents (writer_of c.args.sink.now)) report.Memory refl c.in_ok-next.ensures.item)

pub items-init : goal.items-init
items-init g c =
    let cursor = c.args.cursor.now in
    let lines = c.args.lines.now in
    record {
      unwritten = search rules;
      sound = c.in_ok-next.ensures.sound;
      far = list_begun g.C.Cursor.shown (g.C.Cursor.all cursor) (g.C.Cursor.asked cursor)
          (g.met.C.Cursor.in_turn cursor) (g.S.Lines.above lines) (g.S.Lines.part lines)
          (g.S.Lines.below lines) (g.met.S.Lines.some lines) (g.S.Step.Has lines) _ _
          c.in_ok-next.next c.in_ok-state.state c.in_ok-waiting.waiting.items _
          c.in_ok-waiting.ensures c.in_ok-state.ensures c.in_ok-next.ensures.item;
    }

-- there are no more
pub returns-in_default-clause-written : goal.returns-in_default-clause-written
returns-in_default-clause-written g c =
    list_ended c.items.invariant.far (g.W.Write.contents (writer_of c.write_end.new.sink))
    c.write_end.result c.in_default.is c.write_end.ensures.fault c.write_end.ensures.until

pub returns-in_default-clause-some : goal.returns-in_default-clause-some
returns-in_default-clause-some g c =
    some_ended c.items.invariant.far (g.W.Write.contents (writer_of c.write_end.new.sink))
    c.write_end.result c.write_end.ensures.written

-- a part is not written, or not whole
pub returns-in_err-push_item-clause-written : goal.returns-in_err-push_item-clause-written
returns-in_err-push_item-clause-written g c =
    let left = c.in_err-push_item.ensures.left c.items.invariant.far.some in
    rw
    (passed_on c.from_residual-in_err-push_item.result c.from_residual-in_err-push_item.ensures.1)
    (list_cut c.items.invariant.far c.in-Some.item c.in-Some.is left.0
    (g.W.Write.contents (writer_of c.push_item.new.sink)) left.2 left.1 c.in_err-push_item.field-0.0
    c.in_err-push_item.ensures.fault)

pub returns-in_err-push_item-clause-some : goal.returns-in_err-push_item-clause-some
returns-in_err-push_item-clause-some g c =
    let left = c.in_err-push_item.ensures.left c.items.invariant.far.some in
    let failed = err_from_is_err_and c.from_residual-in_err-push_item.result
    c.from_residual-in_err-push_item.ensures.1 in
    rw failed.1
    (some_cut c.items.invariant.far c.in-Some.item c.in-Some.is left.0
    (g.W.Write.contents (writer_of c.push_item.new.sink)) left.2 left.1 failed.0)

-- the ledger refuses the next one
pub returns-in_err-next-2-clause-written : goal.returns-in_err-next-2-clause-written
returns-in_err-next-2-clause-written g c =
    rw (passed_on c.from_residual-in_err-next-2.result c.from_residual-in_err-next-2.ensures.1)
    (list_refused c.items.invariant.far c.in-Some.item c.in-Some.is c.push_item.new.waiting.items
    (g.W.Write.contents (writer_of c.push_item.new.sink)) c.in_ok-push_item.ensures.written
    (c.in_ok-push_item.ensures.left c.items.invariant.far.some)
    (g.L.Ledger.seen c.next-in-items.new.ledger) c.in_err-next-2.field-0.0
    c.in_err-next-2.ensures.item)

pub returns-in_err-next-2-clause-some : goal.returns-in_err-next-2-clause-some
returns-in_err-next-2-clause-some g c =
    let failed = err_from_is_err_and c.from_residual-in_err-next-2.result
    c.from_residual-in_err-next-2.ensures.1 in
    rw failed.1
    (some_cut c.items.invariant.far c.in-Some.item c.in-Some.is c.push_item.new.waiting.items
    (g.W.Write.contents (writer_of c.push_item.new.sink)) c.in_ok-push_item.ensures.written
    (c.in_ok-push_item.ensures.left c.items.invariant.far.some) failed.0)

-- or it goes on
pub items-preserved : goal.items-preserved
items-preserved g c = record {
  unwritten = c.in_ok-push_item.ensures.failed;
  sound = c.in_ok-next-2.ensures.sound;
  far = list_more c.items.invariant.far c.in-Some.item c.in-Some.is c.push_item.new.waiting.items
      (g.W.Write.contents (writer_of c.push_item.new.sink)) c.in_ok-push_item.ensures.written
      (c.in_ok-push_item.ensures.left c.items.invariant.far.some)
      (g.L.Ledger.seen c.next-in-items.new.ledger) c.in_ok-next-2.next c.push_item.new.state
      c.in_ok-push_item.ensures.added c.in_ok-next-2.ensures.item;
}

-- there are too many
pub returns-clause-written : goal.returns-clause-written
returns-clause-written g c = list_stopped c.items.invariant.far report.Memory refl

pub returns-clause-some : goal.returns-clause-some
returns-clause-some g c = some_stopped c.items.invariant.far report.Memory
