use Rattle.std.proofs.Common.{sym, ap, ◌∙◌, Some, None, ◌≡◌, ℕ, List, refl, true, Option, ℤ, find}
use Rattle.std.proofs.Common.{reverse, option_map}
use Rattle.book_model.specs.Words.{AcceptedTerms, reckoning_by, are_rising, day_of, has_begun}
use Rattle.book_model.specs.Words.{in_force}
use Rattle.book_model.proofs.LatestLemmas.{begun-last}
use Rattle.book_core.proofs.pricing.reckon_in.Goals as goal

-- how the price of a record comes about by the last tariff that has begun on its day
reckoned_under : (tariffs : List AcceptedTerms) (bytes : List ℕ) (day : ℤ)
    (found : Option AcceptedTerms)
    → are_rising tariffs ≡ true → day ≡ day_of bytes
    → found ≡ find (has_begun day) (reverse tariffs)
    → option_map (λ terms. reckoning_by terms bytes) (in_force (day_of bytes) tariffs)
    ≡ option_map (λ tariff. reckoning_by tariff.terms bytes) found
reckoned_under tariffs bytes day found rise is at =
    ap (λ (d : ℤ). option_map (λ terms. reckoning_by terms bytes) (in_force d tariffs)) (sym is)
    ∙ ap (λ last. option_map (λ terms. reckoning_by terms bytes)
    (option_map (λ (tariff : AcceptedTerms). tariff.terms) last))
    (begun-last tariffs day rise ∙ sym at)
    ∙ by_found found
  where
    by_found : (found : Option AcceptedTerms)
        → option_map (λ terms. reckoning_by terms bytes)
        (option_map (λ (tariff : AcceptedTerms). tariff.terms) found)
        ≡ option_map (λ tariff. reckoning_by tariff.terms bytes) found
    by_found None = refl
    by_found (Some tariff) = refl

pub returns-in_err-accepted-clause-value : goal.returns-in_err-accepted-clause-value
returns-in_err-accepted-clause-value c =
    let moment = c.moment.result in
    c.from_residual.ensures
    ∙ sym (reckoned_under c.args.tariffs.now c.args.usage.now moment.day None c.requires
    c.moment.ensures.day c.in_err-accepted.ensures)

pub returns-clause-value : goal.returns-clause-value
returns-clause-value c =
    let bytes = c.args.usage.now in
    let accepted = c.in_ok-accepted.accepted.now in
    let reckoning = c.reckon.ensures.value
    ∙ ap (λ (tariff : AcceptedTerms). reckoning_by tariff.terms bytes) c.accepted.view_is in
    ap Some reckoning
    ∙ sym (reckoned_under c.args.tariffs.now bytes c.moment.result.day
    (Some accepted) c.requires c.moment.ensures.day c.in_ok-accepted.ensures)
