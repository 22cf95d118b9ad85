-- The tariff in force on a day is one of those accepted, and two that begin on one day are one.
use Rattle.std.proofs.Common.{◌≡◌, ◌∙◌, ℤ, Bool, true, false, true≢false, cond, List, [], ◌∷◌, All}
use Rattle.std.proofs.Common.{Contains, Option, Some, None, ap, arith, filter, int_lt, option_map}
use Rattle.std.proofs.Common.{refl, subst, sym}
use Rattle.std.proofs.lemmas.List.Elements.{All-contains_itself}
use Rattle.book_model.proofs.PermutedSets.{first_or, has_none}
use Rattle.book_model.proofs.RecordSets.{first_of, second_of}
use Rattle.book_model.proofs.Std.{All-filter, All-head, All-tail, All-weaker, ints, list_all}
use Rattle.book_model.proofs.Std.{option_map_or, same_Some}
use Rattle.book_model.specs.Rulings.{later_of}
use Rattle.book_model.specs.Words.{AcceptedTerms, Terms, are_rising, has_begun, in_force, latest}

-- what all tariffs have, the latest of them has
latest_has : (P : AcceptedTerms → Type 0) (tariffs : List AcceptedTerms) (found : AcceptedTerms)
    → All P tariffs → latest tariffs ≡ Some found → P found
latest_has P [] found all is = cc is
latest_has P (one ∷ others) found all is =
    by (latest others) (λ later some. latest_has P others later (All-tail P one others all) some) is
  where
    by : (rest : Option AcceptedTerms) → ((later : AcceptedTerms) → rest ≡ Some later → P later)
        → Some (option_map_or (later_of one) rest one) ≡ Some found → P found
    by None others_have is = subst P (same_Some _ _ is) (All-head P one others all)
    by (Some later) others_have is =
        subst P (same_Some _ _ is)
        (elim (int_lt one.terms.effective later.terms.effective) as (λ b. P (cond b later one)) [
          | true ↦ others_have later refl
          | false ↦ All-head P one others all
        ])

-- so terms that are in force have what the terms of all tariffs have
pub in_force_has : (P : Terms → Type 0) (day : ℤ) (tariffs : List AcceptedTerms) (terms : Terms)
    → All (λ tariff. P tariff.terms) tariffs → in_force day tariffs ≡ Some terms → P terms
in_force_has P day tariffs terms all ruled =
    by (latest (filter (has_begun day) tariffs)) refl ruled
  where
    by : (found : Option AcceptedTerms) → latest (filter (has_begun day) tariffs) ≡ found
        → option_map (λ (tariff : AcceptedTerms). tariff.terms) found ≡ Some terms → P terms
    by None is ruled = cc ruled
    by (Some tariff) is ruled =
        subst P (same_Some _ _ ruled)
        (latest_has (λ tariff. P tariff.terms) (filter (has_begun day) tariffs) tariff
        (All-filter (has_begun day) (λ tariff. P tariff.terms) tariffs all) is)

-- what passes all tests of a list passes that of each
each_passes : {X : Type 0} (p : X → Bool) (xs : List X) (x : X) → list_all p xs ≡ true
    → Contains xs x → p x ≡ true
each_passes p [] x all among = has_none x among
each_passes p (y ∷ ys) x all among =
    first_or y ys x among
    (λ same. ap p (sym same) ∙ first_of (p y) (list_all p ys) all)
    (λ later. each_passes p ys x (second_of (p y) (list_all p ys) all) later)

-- no day is before itself
never_before : {P : Type 0} (one other : ℤ) → one ≡ other → int_lt one other ≡ true → P
never_before one other same before = absurd (true≢false (sym before ∙ itself one other same))
  where
    itself : (one other : ℤ) → one ≡ other → int_lt one other ≡ false
    itself one other same = grind (arith, ints)

-- of rising tariffs those that begin on one day are one
rising_apart : (tariffs : List AcceptedTerms) (one other : AcceptedTerms)
    → are_rising tariffs ≡ true → Contains tariffs one → Contains tariffs other
    → one.terms.effective ≡ other.terms.effective → one.terms ≡ other.terms
rising_apart [] one other rising first second same = has_none one first
rising_apart (tariff ∷ tariffs) one other rising first second same =
    let behind : AcceptedTerms → Bool =
    λ later. int_lt tariff.terms.effective later.terms.effective in
    let all = first_of (list_all behind tariffs) (are_rising tariffs) rising in
    let rest = second_of (list_all behind tariffs) (are_rising tariffs) rising in
    first_or tariff tariffs one first
    (λ is. first_or tariff tariffs other second
    (λ too. ap (λ (tariff : AcceptedTerms). tariff.terms) (sym is ∙ too))
    (λ later. never_before tariff.terms.effective other.terms.effective
    (ap (λ (tariff : AcceptedTerms). tariff.terms.effective) is ∙ same)
    (each_passes behind tariffs other all later)))
    (λ later. first_or tariff tariffs other second
    (λ too. never_before tariff.terms.effective one.terms.effective
    (ap (λ (tariff : AcceptedTerms). tariff.terms.effective) too ∙ sym same)
    (each_passes behind tariffs one all later))
    (λ again. rising_apart tariffs one other rest later again same))

-- terms in force are those of an accepted tariff
record IsOneOf (tariffs : List AcceptedTerms) (terms : Terms) : Type 0 where
  tariff : AcceptedTerms
  among : Contains tariffs tariff
  is : tariff.terms ≡ terms

all_one_of : (tariffs : List AcceptedTerms) → All (λ tariff. IsOneOf tariffs tariff.terms) tariffs
all_one_of tariffs =
    All-weaker (Contains tariffs) (λ tariff. IsOneOf tariffs tariff.terms)
    (λ tariff there. record { tariff = tariff; among = there; is = refl }) tariffs
    (All-contains_itself tariffs)

-- terms in force that begin on one day are the same
pub same_effective : (tariffs : List AcceptedTerms) (day other_day : ℤ) (one other : Terms)
    → are_rising tariffs ≡ true → in_force day tariffs ≡ Some one
    → in_force other_day tariffs ≡ Some other → one.effective ≡ other.effective → one ≡ other
same_effective tariffs day other_day one other rising first second same =
    let its = in_force_has (IsOneOf tariffs) day tariffs one (all_one_of tariffs) first in
    let others = in_force_has (IsOneOf tariffs) other_day tariffs other (all_one_of tariffs) second in
    sym its.is
    ∙ rising_apart tariffs its.tariff others.tariff rising its.among others.among
    (ap (λ (terms : Terms). terms.effective) its.is ∙ same
    ∙ sym (ap (λ (terms : Terms). terms.effective) others.is))
    ∙ others.is
