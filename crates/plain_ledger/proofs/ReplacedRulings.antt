-- The rulings of a plain ledger with a tariff in the place of another.
use Rattle.std.proofs.Common.{◌≡◌, ◌∙◌, ◌++◌, ◌||◌, ◌<◌, ℕ, List, [], ◌∷◌, Bool, true, false, Some, ap}
use Rattle.std.proofs.Common.{filter, leb-false, length, map, nat_le, refl, sym}
use Rattle.book_model.proofs.Std.{map-append}
use Rattle.book_model.specs.Words.{AcceptedTerms, Replaced, Rulings, Terms, is_effective}
use Rattle.book_model.specs.Words.{most_replaced, open_by, replaced_in, with_replaced}
use Rattle.book_model.specs.declared.bill.Credit.{Credit}
use Rattle.book_core.specs.Words.{in_its_place, ruled_in}
use Rattle.book_core.specs.declared.rulings.Rulings.{Rulings as OfficeRulings}
use Rattle.plain_ledger.specs.declared.chosen.ChosenRecord.{ChosenRecord}
use Rattle.plain_ledger.specs.declared.replaced.ReplacedTariff.{ReplacedTariff}
use Rattle.plain_ledger.specs.Plain.{replaced_of, ruled_by}

-- where a tariff passed the test of room, what is held is not too dear, and one more can be kept
pub passes_apart : (dear : Bool) (n : ℕ) → (dear || nat_le most_replaced n) ≡ false
    → (dear ≡ false) × (n < most_replaced)
passes_apart true n none = cc
passes_apart false n none = (refl, leb-false most_replaced n none)

-- the rulings with the tariff in its place, and with what it replaced behind the others
pub ruled-replaced : (own old : OfficeRulings) (choices : List ChosenRecord)
    (replaced after : List ReplacedTariff) (credits : List Credit) (text : List ℕ) (terms : Terms)
    (was : AcceptedTerms) (period : ℕ)
    → ruled_in own ≡ in_its_place (record { text = Some text; terms = terms }) (ruled_in old)
    → filter (is_effective terms.effective) (ruled_in old).tariffs ≡ was ∷ []
    → period ≡ open_by (ruled_in old)
    → after ≡ replaced ++ record { tariff = was; period = period } ∷ []
    → ruled_by own choices after credits
    ≡ with_replaced text terms (ruled_by old choices replaced credits)
ruled-replaced own old choices replaced after credits text terms was period put took opened all =
    let rulings = ruled_by old choices replaced credits in
    let both : Rulings → List Replaced → Rulings = λ office list. record rulings {
      tariffs = office.tariffs;
      closes = office.closes;
      adopted = office.adopted;
      replaced = list;
    } in
    let one : List AcceptedTerms → List Replaced = map (replaced_in (open_by rulings)) in
    let last : replaced_of (record { tariff = was; period = period })
    ≡ replaced_in (open_by rulings) was = λ i. record { tariff = was; period = opened i } in
    let listed = ap (map replaced_of) all
    ∙ map-append replaced_of replaced (record { tariff = was; period = period } ∷ [])
    ∙ ap (λ end. map replaced_of replaced ++ end ∷ []) last
    ∙ ap (λ found. map replaced_of replaced ++ one found) (sym took) in
    λ i. both (put i) (listed i)
