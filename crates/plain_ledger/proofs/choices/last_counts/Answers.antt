use Rattle.std.proofs.Common.{sym, subst}
use Rattle.plain_ledger.specs.Choices.{DoCount}
use Rattle.plain_ledger.specs.Plain.{rulings_of}
use Rattle.plain_ledger.proofs.ChoiceLemmas.{counts-put, next_choices}
use Rattle.plain_ledger.proofs.choices.last_counts.Goals as goal

pub loop-choice-preserved : goal.loop-choice-preserved
loop-choice-preserved c =
    let choice = c.choice-item.result in
    subst (λ choices. DoCount (rulings_of choices c.args.adopted) c.insert.new.self)
    (sym (next_choices c.args.choices.now c.loop-choice.choice-index choice c.loop-choice-test.true
    c.choice-item.is))
    (counts-put c.args.adopted _ choice _ c.identity_by.ensures c.loop-choice.counts
    c.insert.new.self c.loop-choice.invariant c.in_ok-insert.ensures.updates.0)
