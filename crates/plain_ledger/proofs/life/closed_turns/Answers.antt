use Rattle.std.proofs.Common.{◌∙◌, ◌+◌, ◌++◌, ap, sym}
use Rattle.std.specs.BTreeMap.{get}
use Rattle.book_model.specs.Words.{by_bytes}
use Rattle.plain_ledger.specs.declared.treatment.ClosedPeriod.{ClosedPeriod}
use Rattle.plain_ledger.specs.PlainLives.{turn_at}
use Rattle.plain_ledger.proofs.LifeLemmas.{closed-more}
use Rattle.plain_ledger.proofs.life.closed_turns.Goals as goal

-- what one more period did
pub loop-at-preserved : goal.loop-at-preserved
loop-at-preserved c =
    c.in_ok-push_turn.ensures
    ∙ (λ i. c.loop-at.invariant i
    ++ turn_at (c.loop-at.at + 1) ((c.copied-share.ensures ∙ c.get.ensures.value
    ∙ ap (λ (one : ClosedPeriod). get by_bytes one.treatments c.args.name.now)
    (sym c.index-closed-at.is)) i))
    ∙ sym (closed-more c.args.name.now c.args.closed.now c.loop-at.at c.index-closed-at.result
    c.loop-at-test.true c.index-closed-at.is)
