use Rattle.book_lists.proofs.ReadingLemmas.{passed_on}
use Rattle.book_lists.proofs.CursorLemmas.{first_read, fold_begun, fold_ended, fold_more}
use Rattle.book_lists.proofs.CursorLemmas.{fold_refused, fold_stopped, fold_unbegun, fold_unread}
use Rattle.book_lists.proofs.folds.fold.Goals as goal

-- the first item is refused
pub returns-in_err-next : goal.returns-in_err-next
returns-in_err-next g c =
    let cursor = c.args.cursor.now in
    rw (passed_on c.from_residual.result c.from_residual.ensures.1)
    (fold_unread g.C.Cursor.shown (g.C.Cursor.all cursor) (g.C.Cursor.asked cursor)
    (g.met.C.Cursor.in_turn cursor) (g.S.Step.Has c.args.step.now) _ _ c.in_err-next.field-0.0
    c.in_err-next.ensures.item)

-- there is no memory to begin
pub returns-in_err-state : goal.returns-in_err-state
returns-in_err-state g c =
    let cursor = c.args.cursor.now in
    rw (passed_on c.from_residual-in_err-state.result c.from_residual-in_err-state.ensures.1)
    (fold_unbegun g.C.Cursor.shown (g.C.Cursor.all cursor) (g.C.Cursor.asked cursor)
    (g.met.C.Cursor.in_turn cursor) (g.S.Step.Has c.args.step.now)
    (first_read g.C.Cursor.shown (g.C.Cursor.all cursor) (g.C.Cursor.asked cursor)
    (g.met.C.Cursor.in_turn cursor) _ _ c.in_ok-next.next c.in_ok-next.ensures.item))

pub items-init : goal.items-init
items-init g c = record {
  sound = c.in_ok-next.ensures.sound;
  far = fold_begun g.C.Cursor.shown (g.C.Cursor.all c.args.cursor.now)
      (g.C.Cursor.asked c.args.cursor.now) (g.met.C.Cursor.in_turn c.args.cursor.now)
      (g.S.Step.Has c.args.step.now) _ _ c.in_ok-next.next c.in_ok-state.state
      c.in_ok-next.ensures.item c.in_ok-state.ensures;
}

-- there are no more
pub returns-in_default : goal.returns-in_default
returns-in_default g c = fold_ended c.items.invariant.far c.in_default.is

-- one does not fit
pub returns-in_err-add : goal.returns-in_err-add
returns-in_err-add g c =
    rw (
      passed_on c.from_residual-in_err-add.result c.from_residual-in_err-add.ensures.1,
      c.in_err-add.ensures.fault,
    )
    (fold_stopped c.items.invariant.far)

-- the next one is refused
pub returns-in_err-next-2 : goal.returns-in_err-next-2
returns-in_err-next-2 g c =
    rw (passed_on c.from_residual-in_err-next-2.result c.from_residual-in_err-next-2.ensures.1)
    (fold_refused c.items.invariant.far _ c.in-Some.item c.in_err-next-2.field-0.0 c.in-Some.is
    c.in_err-next-2.ensures.item)

pub items-preserved : goal.items-preserved
items-preserved g c = record {
  sound = c.in_ok-next-2.ensures.sound;
  far = fold_more c.items.invariant.far _ c.in-Some.item c.in_ok-next-2.next c.add.new.state
      c.in-Some.is c.in_ok-add.ensures.added c.in_ok-next-2.ensures.item;
}

-- there are too many
pub returns : goal.returns
returns g c = fold_stopped c.items.invariant.far
