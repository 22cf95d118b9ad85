use Rattle.std.proofs.Common.{◌∙◌, [], sym}
use Rattle.tariff_rules.proofs.SearchLemmas.{any_passes, fails_more, none_passes}
use Rattle.plain_ledger.specs.Choices.{withholds}
use Rattle.plain_ledger.specs.Plain.{record_of, rulings_of}
use Rattle.plain_ledger.proofs.ChoiceLemmas.{was_withheld-by}
use Rattle.plain_ledger.proofs.choices.was_withheld.Goals as goal

pub returns-then-withholds : goal.returns-then-withholds
returns-then-withholds c =
    any_passes (withholds (rulings_of [] c.args.adopted) c.identity_by-identity.result)
    c.args.choices.now c.loop-choice.choice-index c.choice-item.result c.loop-choice-test.true
    (rw (← c.choice-item.is) (sym c.withholds.ensures ∙ c.if-withholds.true))
    ∙ was_withheld-by c.args.adopted c.args.choices.now (record_of c.args.held.now) _
    c.identity_by-identity.ensures

pub loop-choice-preserved : goal.loop-choice-preserved
loop-choice-preserved c =
    fails_more (withholds (rulings_of [] c.args.adopted) c.identity_by-identity.result)
    c.args.choices.now c.loop-choice.choice-index c.choice-item.result c.loop-choice-test.true
    c.loop-choice.invariant
    (rw (← c.choice-item.is) (sym c.withholds.ensures ∙ c.if-withholds.false))

pub returns : goal.returns
returns c =
    none_passes (withholds (rulings_of [] c.args.adopted) c.identity_by-identity.result)
    c.args.choices.now c.loop-choice.choice-index c.loop-choice-test.false c.loop-choice.invariant
    ∙ was_withheld-by c.args.adopted c.args.choices.now (record_of c.args.held.now) _
    c.identity_by-identity.ensures
