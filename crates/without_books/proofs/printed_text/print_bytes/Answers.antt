use Rattle.std.proofs.Common.{arith, drop, inl, inr, refl, take}
use Rattle.std.proofs.KnownBytes.{Appends-kept}
use Rattle.without_books.proofs.OutputLemmas.{write_failed}
use Rattle.without_books.proofs.printed_text.print_bytes.Goals as goal

-- a write of the rest failed
pub returns-then-written-size-clause-failed : goal.returns-then-written-size-clause-failed
returns-then-written-size-clause-failed g c =
    let written = c.hand_all-written in
    let failed = written.ensures.fails (omega (arith, c.if-written-size.true)) in
    write_failed g.O.Writer.may_answer failed.0 written.new.writer
    (drop written.result c.args.bytes.now) failed.1

pub returns-then-written-size-clause-printed : goal.returns-then-written-size-clause-printed
returns-then-written-size-clause-printed g c =
    let written = c.hand_all-written in
    let failed = written.ensures.fails (omega (arith, c.if-written-size.true)) in
    let lost = write_failed g.O.Writer.may_answer failed.0 written.new.writer
    (drop written.result c.args.bytes.now) failed.1 in
    (inr (lost, inr refl), written.result, written.ensures.grown)

-- the flush failed
pub returns-in-Err-clause-printed : goal.returns-in-Err-clause-printed
returns-in-Err-clause-printed g c =
    let contents = g.O.Write.contents in
    let written = c.hand_all-written in (
      inr (c.in-Err.ensures.failed, inl c.in-Err.ensures.fault),
      written.result,
      Appends-kept (contents c.args.output.now) (contents written.new.writer)
          (contents c.let_out.new.output) (take written.result c.args.bytes.now)
          written.ensures.grown c.let_out.ensures.kept,
    )
