use Rattle.std.proofs.Common.{sym, ◌∙◌}
use Rattle.book_model.specs.Rulings.{is_effective}
use Rattle.tariff_rules.proofs.SearchLemmas.{fails_more, no_place, none_passes, place_at}
use Rattle.book_core.proofs.accepted_tariff.place_of.Goals as goal

pub returns-then-has_day_of : goal.returns-then-has_day_of
returns-then-has_day_of c =
    let accepted = c.index-tariffs-place in
    sym (place_at (is_effective c.args.other.now.effective) c.args.tariffs.now c.loop-place.place
    accepted.result c.loop-place-test.true c.loop-place.invariant
    (rw (← accepted.is) (sym c.has_day_of.ensures ∙ c.if-has_day_of.true)))

pub loop-place-preserved : goal.loop-place-preserved
loop-place-preserved c =
    let accepted = c.index-tariffs-place in
    fails_more (is_effective c.args.other.now.effective) c.args.tariffs.now c.loop-place.place
    accepted.result c.loop-place-test.true c.loop-place.invariant
    (rw (← accepted.is) (sym c.has_day_of.ensures ∙ c.if-has_day_of.false))

pub returns : goal.returns
returns c =
    sym (no_place (is_effective c.args.other.now.effective) c.args.tariffs.now
    (sym (none_passes (is_effective c.args.other.now.effective) c.args.tariffs.now
    c.loop-place.place c.loop-place-test.false c.loop-place.invariant)))
