use Rattle.std.proofs.Common.{◌∙◌, sym, arith}
use Rattle.smf_text.proofs.ShowLemmas.{without_blanks-drops, without_blanks-keeps}
use Rattle.smf_text.proofs.shown.without_blanks.Goals as goal
use Rattle.smf_text.proofs.shown.without_blanks.Goals.{then-loop-end-test+else-bytes-end-eq-BLANK, else-loop-end-test}

pub loop-end-preserved : goal.loop-end-preserved
loop-end-preserved c =
    let drops =
    without_blanks-drops c.args.bytes.now c.loop-end.end
    c.loop-end-test.true c.loop-end.invariant.0 c.if-bytes-end-eq-BLANK.true in
    (omega (arith, c.loop-end.invariant.0), drops ∙ c.loop-end.invariant.1)

pub returns : goal.returns
returns c =
    let keeps = without_blanks-keeps c.args.bytes.now c.loop-end.end c.loop-end.invariant.0 in
    let is = c.loop-end.invariant.1 in
    elim c.loop-end-test.branch [
      | then-loop-end-test+else-bytes-end-eq-BLANK w ↦
          sym (keeps (λ some. w.if-bytes-end-eq-BLANK.false)) ∙ is
      | else-loop-end-test w ↦ sym (keeps (λ some. absurd (omega arith))) ∙ is
    ]
