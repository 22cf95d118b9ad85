use Rattle.std.proofs.Common.{[], sym, subst}
use Rattle.plain_ledger.specs.Plain.{HasDisputed, is_shared, rulings_of}
use Rattle.plain_ledger.proofs.ChoiceLemmas.{next_choices, unsettled-more}
use Rattle.plain_ledger.proofs.identities.disputed_identities.Goals as goal

pub loop-choice-preserved : goal.loop-choice-preserved
loop-choice-preserved c =
    let choice = c.choice-item.result in
    let entries = c.args.held.now.entries in
    subst (λ choices. HasDisputed (rulings_of choices c.args.adopted) entries c.remove.new.self)
    (sym (next_choices c.args.choices.now c.loop-choice.choice-index choice c.loop-choice-test.true
    c.choice-item.is))
    (unsettled-more c.args.adopted _ choice _ c.identity_by.ensures
    (is_shared (rulings_of [] c.args.adopted) entries) c.loop-choice.disputed
    c.remove.new.self c.loop-choice.invariant c.remove.ensures.updates.0)
