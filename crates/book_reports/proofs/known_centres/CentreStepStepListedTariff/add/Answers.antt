use Rattle.std.proofs.Common.{◌≡◌, ◌∙◌, ◌||◌, ap, map, refl, string_bytes, subst, sym, Bool}
use Rattle.book_model.specs.Words.{IsDay}
use Rattle.book_model.proofs.Lemmas.{day_kept}
use Rattle.book_reports.proofs.Words.{map_push, tariff_shown}
use Rattle.book_reports.proofs.KnownCentreLemmas.{named_more}
use Rattle.book_reports.specs.KnownCentres.{is_named, is_named_by}
use Rattle.book_reports.proofs.known_centres.CentreStepStepListedTariff.add.Goals as goal

-- one is enough
pub returns-then-named-clause-added : goal.returns-then-named-clause-added
returns-then-named-clause-added c tariffs are =
    let step = c.args.self.now in
    let tariff = c.args.tariff.now in
    let text = string_bytes tariff.text in
    let more : Bool = is_named_by step.centre step.days.through tariff.day text in
    let stays : c.args.named.now ≡ (c.args.named.now || more) =
    c.if-named.true ∙ sym (ap (λ (named : Bool). named || more) c.if-named.true) in
    stays
    ∙ named_more step.centre step.days.through (map tariff_shown tariffs) tariff.day text
    c.args.named.now more are refl
    ∙ ap (is_named step.centre step.days.through) (map_push tariff_shown tariffs tariff)

pub is_named_by-requires : goal.is_named_by-requires
is_named_by-requires c = subst IsDay (sym (day_kept c.args.tariff.now.day c.requires)) c.requires

-- with one more tariff
pub returns-clause-added : goal.returns-clause-added
returns-clause-added c tariffs are =
    let step = c.args.self.now in
    let tariff = c.args.tariff.now in
    sym (ap (λ (named : Bool). named || c.in_ok-more.more) c.if-named.false)
    ∙ named_more step.centre step.days.through (map tariff_shown tariffs) tariff.day
    (string_bytes tariff.text) c.args.named.now c.in_ok-more.more are
    (rw (day_kept tariff.day c.requires, c.as_str.ensures.value) at c.in_ok-more.ensures.named)
    ∙ ap (is_named step.centre step.days.through) (map_push tariff_shown tariffs tariff)
