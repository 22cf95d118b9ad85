use Rattle.std.proofs.Common.{sym, ◌∙◌}
use Rattle.book_model.specs.RulingAnswers.{has_centre}
use Rattle.tariff_rules.proofs.SearchLemmas.{any_passes, fails_more, none_passes}
use Rattle.book_core.proofs.accepted_tariff.has_centre.Goals as goal

pub returns-then-has_centre : goal.returns-then-has_centre
returns-then-has_centre c =
    any_passes (has_centre c.args.centre) c.args.tariffs.now c.loop-accepted.accepted-index
    c.accepted-item.result c.loop-accepted-test.true
    (rw (← c.accepted-item.is) (sym c.has_centre.ensures ∙ c.if-has_centre.true))

pub loop-accepted-preserved : goal.loop-accepted-preserved
loop-accepted-preserved c =
    fails_more (has_centre c.args.centre) c.args.tariffs.now c.loop-accepted.accepted-index
    c.accepted-item.result c.loop-accepted-test.true c.loop-accepted.invariant
    (rw (← c.accepted-item.is) (sym c.has_centre.ensures ∙ c.if-has_centre.false))

pub returns : goal.returns
returns c =
    none_passes (has_centre c.args.centre) c.args.tariffs.now c.loop-accepted.accepted-index
    c.loop-accepted-test.false c.loop-accepted.invariant
