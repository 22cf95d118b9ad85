use Rattle.std.proofs.Common.{◌∙◌, [], Bool, false, not, sym}
use Rattle.tariff_rules.proofs.SearchLemmas.{any_passes, fails_more, none_passes}
use Rattle.book_model.specs.declared.trail.NamedChoice.{NamedChoice}
use Rattle.table_ledger.proofs.withheld.has_none.Goals as goal

-- a choice is one of none
abbrev test : NamedChoice → Bool
test choice = not choice.counts

-- where there is no choice
abbrev any : NamedChoice
any = record { period = 0; name = []; counts = false }

pub returns-then-is_none : goal.returns-then-is_none
returns-then-is_none c =
    any_passes test c.args.choices.now c.loop-choice.choice-index any c.loop-choice-test.true
    (sym c.is_none.ensures ∙ c.if-is_none.true)

pub loop-choice-preserved : goal.loop-choice-preserved
loop-choice-preserved c =
    fails_more test c.args.choices.now c.loop-choice.choice-index any c.loop-choice-test.true
    c.loop-choice.invariant (sym c.is_none.ensures ∙ c.if-is_none.false)

pub returns : goal.returns
returns c =
    none_passes test c.args.choices.now c.loop-choice.choice-index c.loop-choice-test.false
    c.loop-choice.invariant
