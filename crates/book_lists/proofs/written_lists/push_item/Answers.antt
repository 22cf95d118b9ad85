use Rattle.std.proofs.Common.{◌++◌}
use Rattle.book_lists.proofs.ReadingLemmas.{passed_on}
use Rattle.book_lists.proofs.StreamedLemmas.{none_written, some_before}
use Rattle.book_lists.proofs.written_lists.push_item.Goals as goal

-- the item does not fit
pub returns-in_err-add-clause-written : goal.returns-in_err-add-clause-written
returns-in_err-add-clause-written g c =
    rw (passed_on c.from_residual.result c.from_residual.ensures.1) (_, none_written _ _)

pub returns-in_err-add-clause-left : goal.returns-in_err-add-clause-left
returns-in_err-add-clause-left g c some =
    let part = g.S.Lines.part c.args.lines.now c.args.number c.args.item.now in
    let waits = c.args.waiting.now.items in
    rw (passed_on c.from_residual.result c.from_residual.ensures.1)
    (waits ++ part, some_before waits part some, none_written _ _)

-- there is no memory for its part
pub returns-in_err-line-clause-written : goal.returns-in_err-line-clause-written
returns-in_err-line-clause-written g c =
    rw (passed_on c.from_residual-in_err-line.result c.from_residual-in_err-line.ensures.1)
    (_, none_written _ _)

pub returns-in_err-line-clause-left : goal.returns-in_err-line-clause-left
returns-in_err-line-clause-left g c some =
    let part = g.S.Lines.part c.args.lines.now c.args.number c.args.item.now in
    let waits = c.args.waiting.now.items in
    rw (passed_on c.from_residual-in_err-line.result c.from_residual-in_err-line.ensures.1)
    (waits ++ part, some_before waits part some, none_written _ _)
