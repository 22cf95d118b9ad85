-- The centre of whatever has a price is one that some tariff has a rule for, or that of work which no rule
-- applies to.
use Rattle.std.proofs.Common.{◌≡◌, ◌∙◌, ◌||◌, ℕ, ℤ, Bool, true, false, not, cond, List, [], ◌∷◌, refl}
use Rattle.std.proofs.Common.{sym, ap, subst, true≢false, Option, Some, None, All, arith, filter, find}
use Rattle.std.proofs.Common.{int_lt, option_map}
use Rattle.std.proofs.Math.Bool.{or-true}
use Rattle.tariff_rules.specs.Price.{applies_to, centre_by, centre_of, has_centre, is_of, unassigned}
use Rattle.tariff_rules.specs.Terms.{CentreRule}
use Rattle.book_model.proofs.Std.{All-head, All-tail, cons_option, ints, list_any, nat_list_eq_equiv}
use Rattle.book_model.proofs.Std.{option_map_or, result_ok, same_Some}
use Rattle.book_model.specs.Words.{AcceptedTerms, Priced, RulingSeen, TariffSeen, Terms}
use Rattle.book_model.specs.Words.{begins_by, begun_in, day_of, has_begun, is_centre, is_through}
use Rattle.book_model.specs.Words.{latest, names_centre, price_by, same_bytes, tariffs_seen}
use Rattle.book_model.specs.Words.{tariffs_through, through_of}
use Rattle.book_model.specs.Rulings.{later_of}
use Rattle.book_model.specs.KnownCentres.{KnownCentresAgree, PricedCentresAreThere, SaysTerms}
use Rattle.book_model.specs.RulingAnswers.{has_centre as has_rule}
use Rattle.book_model.proofs.LatestLemmas.{latest-own}

-- ---- the rule that is found

-- of two tests one holds, and so of three
or_more : (a b c : Bool) → (a || c) ≡ true → (a || (b || c)) ≡ true
or_more true b c some = refl
or_more false b c some = ap (λ d. b || d) some ∙ or-true b

-- the centre of the rule that is found is UNASSIGNED, or that of a rule
found_named : (p : CentreRule → Bool) (rules : List CentreRule)
    → (same_bytes unassigned (centre_by (find p rules))
    || has_centre (centre_by (find p rules)) rules) ≡ true
found_named p [] = ap (λ b. b || false) (nat_list_eq_equiv.refl unassigned)
found_named p (rule ∷ rules) =
    elim (p rule) as (λ b.
    (same_bytes unassigned (centre_by (cond b (Some rule) (find p rules)))
    || (is_of (centre_by (cond b (Some rule) (find p rules))) rule
    || has_centre (centre_by (cond b (Some rule) (find p rules))) rules)) ≡ true) [
      | true ↦
          ap (λ b. same_bytes unassigned rule.centre || (b || has_centre rule.centre rules))
          (nat_list_eq_equiv.refl rule.centre)
          ∙ or-true (same_bytes unassigned rule.centre)
      | false ↦
          or_more (same_bytes unassigned (centre_by (find p rules)))
          (is_of (centre_by (find p rules)) rule)
          (has_centre (centre_by (find p rules)) rules)
          (found_named p rules)
    ]

-- ---- the tariff that is in force

-- days that are not before each other
not_before : (last day first : ℤ) → int_lt last day ≡ false → int_lt day first ≡ false
    → int_lt last first ≡ false
not_before last day first early begun = grind (arith, ints)

from_not : (b : Bool) → not b ≡ true → b ≡ false
from_not true is = absurd (true≢false (sym is))
from_not false is = refl

-- what has begun by a day has begun by a later one
begun_through : (through : Option ℤ) (day first : ℤ) → is_through through day ≡ true
    → not (int_lt day first) ≡ true → is_through through first ≡ true
begun_through None day first early begun = refl
begun_through (Some last) day first early begun =
    ap not (not_before last day first (from_not (int_lt last day) early)
    (from_not (int_lt day first) begun))

module _ (centre : List ℕ) (through : Option ℤ) where
  -- some of the tariffs has a rule for the centre
  abbrev Named : List RulingSeen → Type 0
  Named tariffs = list_any (names_centre centre) (tariffs_through through tariffs) ≡ true

  -- so it is with one more before them
  later_named : (one : RulingSeen) (later : List RulingSeen) → Named later → Named (one ∷ later)
  later_named one later named = by through named
    where
      by : (through : Option ℤ)
          → list_any (names_centre centre) (tariffs_through through later) ≡ true
          → list_any (names_centre centre) (tariffs_through through (one ∷ later)) ≡ true
      by None named = ap (λ b. names_centre centre one || b) named ∙ or-true (names_centre centre one)
      by (Some last) named =
          elim (begins_by last one) as (λ b. list_any (names_centre centre)
          (cond b (one ∷ filter (begins_by last) later) (filter (begins_by last) later)) ≡ true) [
            | true ↦
                ap (λ b. names_centre centre one || b) named ∙ or-true (names_centre centre one)
            | false ↦ named
          ]

  -- and where that one has
  first_named : (day : ℤ) (text : List ℕ) (later : List RulingSeen)
      → is_through through day ≡ true → names_centre centre (TariffSeen day text) ≡ true
      → Named (TariffSeen day text ∷ later)
  first_named day text later begun named = by through begun
    where
      by : (through : Option ℤ) → is_through through day ≡ true
          → list_any (names_centre centre)
          (tariffs_through through (TariffSeen day text ∷ later)) ≡ true
      by None begun = ap (λ b. b || list_any (names_centre centre) later) named
      by (Some last) begun =
          ap (λ b. list_any (names_centre centre)
          (cond b (TariffSeen day text ∷ filter (begins_by last) later) (filter (begins_by last) later)))
          begun
          ∙ ap (λ b. b || list_any (names_centre centre) (filter (begins_by last) later)) named

  -- with one more tariff, whether it came as a text or not
  more_named : (tariff : AcceptedTerms) (tariffs : List AcceptedTerms)
      → Named (tariffs_seen tariffs) → Named (tariffs_seen (tariff ∷ tariffs))
  more_named tariff tariffs named = by tariff.text
    where
      by : (text : Option (List ℕ))
          → Named (cons_option (option_map (TariffSeen tariff.terms.effective) text)
          (tariffs_seen tariffs))
      by None = named
      by (Some text) =
          later_named (TariffSeen tariff.terms.effective text) (tariffs_seen tariffs) named

  -- one that says its terms, which have a rule for the centre
  this_named : (tariff : AcceptedTerms) (tariffs : List AcceptedTerms) → SaysTerms tariff
      → is_through through tariff.terms.effective ≡ true
      → has_centre centre tariff.terms.centres ≡ true → Named (tariffs_seen (tariff ∷ tariffs))
  this_named tariff tariffs says begun has =
      subst (λ text. Named (cons_option (option_map (TariffSeen tariff.terms.effective) text)
      (tariffs_seen tariffs)))
      (sym says.is)
      (first_named tariff.terms.effective says.text (tariffs_seen tariffs) begun
      (ap (λ said. option_map_or (λ (terms : Terms). has_centre centre terms.centres) (result_ok said)
      false)
      says.said ∙ has))

  -- so a centre that the tariff in force on a day has a rule for is named by some tariff
  force_named : (p : AcceptedTerms → Bool) (tariffs : List AcceptedTerms) (found : AcceptedTerms)
      → All SaysTerms tariffs → latest (filter p tariffs) ≡ Some found
      → is_through through found.terms.effective ≡ true
      → has_centre centre found.terms.centres ≡ true → Named (tariffs_seen tariffs)
  force_named p [] found said is begun has = cc
  force_named p (tariff ∷ tariffs) found said is begun has =
      by (p tariff)
      (λ later. more_named tariff tariffs
      (force_named p tariffs found (All-tail SaysTerms tariff tariffs said) later begun has)) is
    where
      this : tariff ≡ found → Named (tariffs_seen (tariff ∷ tariffs))
      this same =
          this_named tariff tariffs (All-head SaysTerms tariff tariffs said)
          (subst (λ (one : AcceptedTerms). is_through through one.terms.effective ≡ true) (sym same) begun)
          (subst (λ (one : AcceptedTerms). has_centre centre one.terms.centres ≡ true) (sym same) has)

      later_is : (b : Bool) (other : AcceptedTerms)
          → (latest (filter p tariffs) ≡ Some found → Named (tariffs_seen (tariff ∷ tariffs)))
          → latest (filter p tariffs) ≡ Some other → cond b other tariff ≡ found
          → Named (tariffs_seen (tariff ∷ tariffs))
      later_is true other rest at same = rest (at ∙ ap Some same)
      later_is false other rest at same = this same

      either : (other : Option AcceptedTerms)
          → (latest (filter p tariffs) ≡ Some found → Named (tariffs_seen (tariff ∷ tariffs)))
          → latest (filter p tariffs) ≡ other
          → Some (option_map_or (later_of tariff) other tariff) ≡ Some found
          → Named (tariffs_seen (tariff ∷ tariffs))
      either None rest at is = this (same_Some _ _ is)
      either (Some other) rest at is =
          later_is (int_lt tariff.terms.effective other.terms.effective) other rest at
          (same_Some _ _ is)

      by : (b : Bool)
          → (latest (filter p tariffs) ≡ Some found → Named (tariffs_seen (tariff ∷ tariffs)))
          → latest (cond b (tariff ∷ filter p tariffs) (filter p tariffs)) ≡ Some found
          → Named (tariffs_seen (tariff ∷ tariffs))
      by true rest is = either (latest (filter p tariffs)) rest refl is
      by false rest is = rest is

-- of two tests one holds, or by the second another
or_then : (a b c : Bool) → (a || b) ≡ true → (b ≡ true → c ≡ true) → (a || c) ≡ true
or_then true b c some next = refl
or_then false b c some next = next some

-- the law
pub priced_centres_are_there : PricedCentresAreThere
priced_centres_are_there rulings bytes priced number said is early =
    by (latest (filter begun rulings.tariffs)) refl is
  where
    begun : AcceptedTerms → Bool
    begun = has_begun (day_of bytes)

    by : (found : Option AcceptedTerms) → latest (filter begun rulings.tariffs) ≡ found
        → option_map (λ terms. price_by terms bytes) (option_map (λ tariff. tariff.terms) found)
        ≡ Some priced
        → is_centre (begun_in number rulings) priced.centre ≡ true
    by None at none = cc none
    by (Some found) at some =
        let terms : Terms = found.terms in
        let centre = centre_of terms.centres bytes in
        subst (λ (priced : Priced). is_centre (begun_in number rulings) priced.centre ≡ true)
        (same_Some _ _ some)
        (or_then (same_bytes unassigned centre) (has_centre centre terms.centres)
        (list_any (names_centre centre) (begun_in number rulings))
        (found_named (applies_to bytes) terms.centres)
        (force_named centre (through_of number rulings) begun rulings.tariffs found said at
        (begun_through (through_of number rulings) (day_of bytes) terms.effective early
        (latest-own begun rulings.tariffs found at))))

-- ---- the centres of accepted tariffs, and those of their texts

rules_agree : (centre : List ℕ) (tariffs : List AcceptedTerms) → All SaysTerms tariffs
    → list_any (has_rule centre) tariffs ≡ list_any (names_centre centre) (tariffs_seen tariffs)
rules_agree centre [] said = refl
rules_agree centre (tariff ∷ later) said =
    let says = All-head SaysTerms tariff later said in
    let rest = rules_agree centre later (All-tail SaysTerms tariff later said) in
    let day : ℤ = tariff.terms.effective in
    let own : names_centre centre (TariffSeen day says.text) ≡ has_rule centre tariff =
    ap (λ said. option_map_or (λ (terms : Terms). has_centre centre terms.centres) (result_ok said)
    false)
    says.said in
    (λ i. sym own i || rest i)
    ∙ ap (λ text. list_any (names_centre centre)
    (cons_option (option_map (TariffSeen day) text) (tariffs_seen later)))
    (sym says.is)

pub known_centres_agree : KnownCentresAgree
known_centres_agree rulings centre said =
    ap (λ b. same_bytes unassigned centre || b) (rules_agree centre rulings.tariffs said)
