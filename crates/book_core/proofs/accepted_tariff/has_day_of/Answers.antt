use Rattle.std.proofs.Common.{sym, ◌∙◌}
use Rattle.book_model.specs.Rulings.{is_effective}
use Rattle.tariff_rules.proofs.SearchLemmas.{any_passes, fails_more, none_passes}
use Rattle.book_core.proofs.accepted_tariff.has_day_of.Goals as goal

pub returns-then-has_day_of : goal.returns-then-has_day_of
returns-then-has_day_of c =
    any_passes (is_effective c.args.other.now.effective) c.args.tariffs.now
    c.loop-accepted.accepted-index c.accepted-item.result c.loop-accepted-test.true
    (rw (← c.accepted-item.is) (sym c.has_day_of.ensures ∙ c.if-has_day_of.true))

pub loop-accepted-preserved : goal.loop-accepted-preserved
loop-accepted-preserved c =
    fails_more (is_effective c.args.other.now.effective) c.args.tariffs.now
    c.loop-accepted.accepted-index c.accepted-item.result c.loop-accepted-test.true
    c.loop-accepted.invariant
    (rw (← c.accepted-item.is) (sym c.has_day_of.ensures ∙ c.if-has_day_of.false))

pub returns : goal.returns
returns c =
    none_passes (is_effective c.args.other.now.effective) c.args.tariffs.now
    c.loop-accepted.accepted-index c.loop-accepted-test.false c.loop-accepted.invariant
