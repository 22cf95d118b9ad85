use Rattle.std.proofs.Common.{◌++◌, ◌∙◌, eqb-true, length, sym}
use Rattle.std.proofs.lemmas.Bool.{eqb-false}
use Rattle.book_lists.proofs.ReadingLemmas.{passed_on}
use Rattle.book_lists.proofs.StreamedLemmas.{none_added, some_behind, some_in, written_of_more}
use Rattle.book_lists.proofs.waiting.push_part.Goals as goal

-- a part without bytes changes nothing
pub returns-then-is_empty-clause-written : goal.returns-then-is_empty-clause-written
returns-then-is_empty-clause-written g c =
    none_added c.args.waiting.now.items c.args.part.now _
    (eqb-true (length c.args.part.now) 0 (sym c.is_empty.ensures ∙ c.if-is_empty.true))

pub returns-then-is_empty-clause-left : goal.returns-then-is_empty-clause-left
returns-then-is_empty-clause-left g c some = some

-- what waits is not written, or not whole
pub returns-in_err-flush_much-clause-written : goal.returns-in_err-flush_much-clause-written
returns-in_err-flush_much-clause-written g c =
    let part = c.args.part.now in
    let wrote = c.in_err-flush_much.ensures.written in
    rw (passed_on c.from_residual.result c.from_residual.ensures.1)
    (wrote.0 ++ part, written_of_more _ wrote.0 part _ _ wrote.1)

pub returns-in_err-flush_much-clause-left : goal.returns-in_err-flush_much-clause-left
returns-in_err-flush_much-clause-left g c some =
    let part = c.args.part.now in
    let wrote = c.in_err-flush_much.ensures.written in
    let bytes = some_in part
    (eqb-false (length part) 0 (sym c.is_empty.ensures ∙ c.if-is_empty.false)) in
    rw (passed_on c.from_residual.result c.from_residual.ensures.1)
    (wrote.0 ++ part, some_behind wrote.0 part bytes, written_of_more _ wrote.0 part _ _ wrote.1)

-- there is no memory for the part
pub returns-in_err-extend_from_slice-clause-written :
    goal.returns-in_err-extend_from_slice-clause-written
returns-in_err-extend_from_slice-clause-written g c =
    let rest = c.flush_much.new.waiting.items in
    let part = c.args.part.now in
    rw (passed_on c.from_residual-in_err-extend_from_slice.result
    c.from_residual-in_err-extend_from_slice.ensures.1)
    (rest ++ part, written_of_more _ rest part _ _ c.in_ok-flush_much.ensures.written)

pub returns-in_err-extend_from_slice-clause-left : goal.returns-in_err-extend_from_slice-clause-left
returns-in_err-extend_from_slice-clause-left g c some =
    let rest = c.flush_much.new.waiting.items in
    let part = c.args.part.now in
    let bytes = some_in part
    (eqb-false (length part) 0 (sym c.is_empty.ensures ∙ c.if-is_empty.false)) in
    rw (passed_on c.from_residual-in_err-extend_from_slice.result
    c.from_residual-in_err-extend_from_slice.ensures.1) (
      rest ++ part,
      some_behind rest part bytes,
      written_of_more _ rest part _ _ c.in_ok-flush_much.ensures.written,
    )
