use Rattle.std.proofs.Common.{◌∙◌, Ok, Some, ap, map, refl, subst, sym}
use Rattle.book_model.specs.Words.{AreLines, billed_lines}
use Rattle.book_reports.proofs.Words.{BilledLine, lines_of_centre, call_failed, passed_on, answers}
use Rattle.book_reports.proofs.Words.{answers_none, refused_next, shown, shown_as, then_shown}
use Rattle.book_reports.proofs.Words.{then_stays, shown_by}
use Rattle.book_reports.proofs.BillLineLemmas.{line_known, lines_known, lines_more}
use Rattle.book_reports.proofs.bill_lines.centre_lines.Goals as goal

pub returns-in_err-lines-clause-lines : goal.returns-in_err-lines-clause-lines
returns-in_err-lines-clause-lines g c =
    let naming = (g.L.Ledger.seen c.args.ledger.now).naming in
    call_failed c.from_residual.result c.from_residual.ensures.1 (λ book. refl) (λ book. refl)
    (λ book. ap (shown_by (billed_lines naming book c.args.period (Some c.args.centre))))
    c.in_err-lines.ensures.lines

pub loop-line-init : goal.loop-line-init
loop-line-init g c = record {
  shown = subst AreLines (sym c.deref-line-items.ensures.value) c.keep_lines.ensures.lines;
  plain = ap (map (λ (one : BilledLine). one.line)) c.new-billed.ensures.items;
  far = shown_as
      (λ book said. record {
        answered = ap (shown_by (lines_of_centre c.args.centre)) said
            ∙ ap Ok (sym (c.deref-line-items.ensures.value ∙ c.keep_lines.ensures.kept));
        spoken = c.new-billed.ensures.items;
      })
      (shown (λ book. refl) c.in_ok-lines.ensures.lines);
}

-- the trail of a record is refused
pub returns-in_err-spoken_of-clause-lines : goal.returns-in_err-spoken_of-clause-lines
returns-in_err-spoken_of-clause-lines g c =
    refused_next c.from_residual-in_err-spoken_of.result c.from_residual-in_err-spoken_of.ensures.1
    (λ book. refl) (λ book. refl) (λ book known is. cc is) c.loop-line.invariant.far
    c.in_err-spoken_of.ensures

-- there is no memory for one more
pub returns-in_err-push-clause-lines : goal.returns-in_err-push-clause-lines
returns-in_err-push-clause-lines g c =
    rw (passed_on c.from_residual-in_err-push.result c.from_residual-in_err-push.ensures.1)
    (answers_none (λ book. refl)
    (then_stays (λ book. refl) c.loop-line.invariant.far c.in_ok-spoken_of.ensures))

-- one more
pub loop-line-preserved : goal.loop-line-preserved
loop-line-preserved g c =
    let it = c.loop-line.invariant in
    let line = c.line-item.result in
    let spoken_of = c.in_ok-spoken_of.spoken_of in
    record {
      shown = it.shown;
      plain = lines_more c.deref-line-items.result.now c.loop-line.line-index line spoken_of
          c.loop-line.billed.items c.push.new.self.items c.loop-line-test.true c.line-item.is
          c.in_ok-push.ensures.items it.plain;
      far = then_shown (λ book. refl)
          (λ book known said. line_known known line spoken_of c.push.new.self.items
          c.loop-line-test.true c.line-item.is said c.in_ok-push.ensures.items)
          it.far (rw it.far.work.naming at c.in_ok-spoken_of.ensures);
    }

-- these are all
pub returns-clause-lines : goal.returns-clause-lines
returns-clause-lines g c =
    answers c.loop-line.billed (λ book. refl) (λ book known. lines_known known c.loop-line-test.false)
    c.loop-line.invariant.far
