-- Tariffs in the order of their first days: the latest that has begun is the last.
use Rattle.std.proofs.Common.{◌≡◌, ℕ, List, [], ◌∷◌, ◌++◌, refl, sym, ap, ◌∙◌, cond, true, false}
use Rattle.std.proofs.Common.{Bool, not, ◌&&◌, Option, Some, None, ℤ, int_lt, filter, find, reverse}
use Rattle.std.proofs.Common.{option_map}
use Rattle.book_model.proofs.Std.{option_map_or, option_or, list_all, reverse-append, find-append}
use Rattle.book_model.specs.Words.{day_of, price_by, Priced, Terms, Rulings, AcceptedTerms, latest}
use Rattle.book_model.specs.Words.{are_rising, has_begun, in_force, last_close, price_in}
use Rattle.book_model.specs.Words.{price_under, with_tariff, is_after, is_later}
use Rattle.book_model.specs.Rulings.{later_of}
use Rattle.book_model.proofs.RecordSets.{first_of, second_of}

-- a later day is so than the first day of each tariff,
pub later-before : (day : ℤ) (rulings : Rulings) → is_later day rulings ≡ true
    → list_all (λ tariff. int_lt tariff.terms.effective day) rulings.tariffs ≡ true
later-before day rulings later =
    first_of (list_all (λ tariff. int_lt tariff.terms.effective day) rulings.tariffs)
    (is_after (last_close rulings) day) later

-- and than the last close
pub later-after : (day : ℤ) (rulings : Rulings) → is_later day rulings ≡ true
    → is_after (last_close rulings) day ≡ true
later-after day rulings later =
    second_of (list_all (λ tariff. int_lt tariff.terms.effective day) rulings.tariffs)
    (is_after (last_close rulings) day) later

-- the first tariff begins before the other
abbrev pub precedes : AcceptedTerms → AcceptedTerms → Bool
precedes one other = int_lt one.terms.effective other.terms.effective

-- after others, one more is after a day where they are, and it is
all-behind : (p : AcceptedTerms → Bool) (tariffs : List AcceptedTerms) (later : AcceptedTerms)
    → list_all p tariffs ≡ true → p later ≡ true → list_all p (tariffs ++ later ∷ []) ≡ true
all-behind p [] later all one = ap (λ b. b && true) one
all-behind p (tariff ∷ tariffs) later all one =
    let rest = all-behind p tariffs later (second_of (p tariff) (list_all p tariffs) all) one in
    (λ i. first_of (p tariff) (list_all p tariffs) all i && rest i)

-- rising tariffs, and one that begins later than each of them
pub rising-behind : (tariffs : List AcceptedTerms) (later : AcceptedTerms) → are_rising tariffs ≡ true
    → list_all (λ tariff. precedes tariff later) tariffs ≡ true
    → are_rising (tariffs ++ later ∷ []) ≡ true
rising-behind [] later rise before = refl
rising-behind (tariff ∷ tariffs) later rise before =
    let own = first_of (list_all (precedes tariff) tariffs) (are_rising tariffs) rise in
    let others = second_of (list_all (precedes tariff) tariffs) (are_rising tariffs) rise in
    let early = list_all (λ one. precedes one later) tariffs in
    let first = first_of (precedes tariff later) early before in
    let rest = rising-behind tariffs later others
    (second_of (precedes tariff later) early before) in
    let all = all-behind (precedes tariff) tariffs later own first in
    (λ i. all i && rest i)

-- a test that both of two tariffs pass, the later of them passes
later-passes : (q : AcceptedTerms → Bool) (one other : AcceptedTerms) → q one ≡ true → q other ≡ true
    → q (later_of one other) ≡ true
later-passes q one other first second =
    elim (precedes one other) as (λ b. q (cond b other one) ≡ true)
    [ true ↦ second | false ↦ first ]

-- the same of one, and of another if there is one
either-passes : (q : AcceptedTerms → Bool) (one : AcceptedTerms) (other : Option AcceptedTerms) → q one ≡ true
    → ((found : AcceptedTerms) → other ≡ Some found → q found ≡ true)
    → q (option_map_or (later_of one) other one) ≡ true
either-passes q one None first second = first
either-passes q one (Some found) first second = later-passes q one found first (second found refl)

-- the latest of those that pass one test passes another one that all pass
latest-passes : (p q : AcceptedTerms → Bool) (tariffs : List AcceptedTerms) (found : AcceptedTerms)
    → list_all q tariffs ≡ true → latest (filter p tariffs) ≡ Some found → q found ≡ true
latest-passes p q [] found all is = cc
latest-passes p q (tariff ∷ tariffs) found all is =
    let own = first_of (q tariff) (list_all q tariffs) all in
    let others = second_of (q tariff) (list_all q tariffs) all in
    elim (p tariff) as (λ b. latest (cond b (tariff ∷ filter p tariffs) (filter p tariffs))
    ≡ Some found
    → q found ≡ true) [
      | true ↦ λ is.
          let latest_one : AcceptedTerms =
          option_map_or (later_of tariff) (latest (filter p tariffs)) tariff in
          let same : latest_one ≡ found = cc in
          ap q (sym same)
          ∙ either-passes q tariff (latest (filter p tariffs)) own
          (λ other at. latest-passes p q tariffs other others at)
      | false ↦ λ is. latest-passes p q tariffs found others is
    ] is

-- and that one itself
pub latest-own : (p : AcceptedTerms → Bool) (tariffs : List AcceptedTerms) (found : AcceptedTerms)
    → latest (filter p tariffs) ≡ Some found → p found ≡ true
latest-own p [] found is = cc
latest-own p (tariff ∷ tariffs) found is =
    by (p tariff) refl (λ other at. latest-own p tariffs other at) is
  where
    by : (b : Bool) → p tariff ≡ b
        → ((other : AcceptedTerms) → latest (filter p tariffs) ≡ Some other → p other ≡ true)
        → latest (cond b (tariff ∷ filter p tariffs) (filter p tariffs)) ≡ Some found
        → p found ≡ true
    by true own later is =
        let latest_one : AcceptedTerms =
        option_map_or (later_of tariff) (latest (filter p tariffs)) tariff in
        let same : latest_one ≡ found = cc in
        ap p (sym same) ∙ either-passes p tariff (latest (filter p tariffs)) own later
    by false own later is = later found is

-- a tariff that begins before the others is the latest only where there are no others
first-latest : (tariff : AcceptedTerms) (others : Option AcceptedTerms)
    → ((found : AcceptedTerms) → others ≡ Some found → precedes tariff found ≡ true)
    → Some (option_map_or (later_of tariff) others tariff) ≡ option_or others (Some tariff)
first-latest tariff None before = refl
first-latest tariff (Some found) before =
    ap (λ b. Some (cond b found tariff)) (before found refl)

-- nothing else than nothing
pub or-none : {X : Type 0} (found : Option X) → option_or found None ≡ found
or-none None = refl
or-none (Some x) = refl

-- of rising tariffs the latest that passes a test is the last that does
latest-last : (p : AcceptedTerms → Bool) (tariffs : List AcceptedTerms) → are_rising tariffs ≡ true
    → latest (filter p tariffs) ≡ find p (reverse tariffs)
latest-last p [] rise = refl
latest-last p (tariff ∷ tariffs) rise =
    let own = first_of (list_all (precedes tariff) tariffs) (are_rising tariffs) rise in
    let others = second_of (list_all (precedes tariff) tariffs) (are_rising tariffs) rise in
    let rest = latest-last p tariffs others in
    let found : Option AcceptedTerms = latest (filter p tariffs) in
    let step : latest (filter p (tariff ∷ tariffs)) ≡ option_or found (find p (tariff ∷ [])) =
    elim (p tariff) as (λ b. latest (cond b (tariff ∷ filter p tariffs) (filter p tariffs))
    ≡ option_or found (cond b (Some tariff) None)) [
      | true ↦ first-latest tariff found
          (λ later at. latest-passes p (precedes tariff) tariffs later own at)
      | false ↦ sym (or-none found)
    ] in
    step
    ∙ ap (λ front. option_or front (find p (tariff ∷ []))) rest
    ∙ sym (find-append p (reverse tariffs) (tariff ∷ []))
    ∙ ap (find p) (sym (reverse-append (tariff ∷ []) tariffs))

-- so it is with those that have begun
pub begun-last : (tariffs : List AcceptedTerms) (day : ℤ) → are_rising tariffs ≡ true
    → latest (filter (has_begun day) tariffs) ≡ find (has_begun day) (reverse tariffs)
begun-last tariffs day rise = latest-last (has_begun day) tariffs rise

-- what a record costs by the terms of a tariff, if one was found
abbrev priced_by : List ℕ → Option AcceptedTerms → Option Priced
priced_by bytes found =
    option_map (λ terms. price_by terms bytes)
    (option_map (λ (tariff : AcceptedTerms). tariff.terms) found)

-- the same, at once
priced_by-found : (bytes : List ℕ) (found : Option AcceptedTerms)
    → priced_by bytes found ≡ option_map (λ tariff. price_by tariff.terms bytes) found
priced_by-found bytes None = refl
priced_by-found bytes (Some tariff) = refl

-- what a record costs by the last tariff that has begun on its day
pub price_under-found : (tariffs : List AcceptedTerms) (bytes : List ℕ) (day : ℤ)
    (found : Option AcceptedTerms)
    → are_rising tariffs ≡ true → day ≡ day_of bytes
    → found ≡ find (has_begun day) (reverse tariffs)
    → price_under tariffs bytes ≡ option_map (λ tariff. price_by tariff.terms bytes) found
price_under-found tariffs bytes day found rise is at =
    ap (λ d. option_map (λ terms. price_by terms bytes) (in_force d tariffs)) (sym is)
    ∙ ap (priced_by bytes) (begun-last tariffs day rise ∙ sym at)
    ∙ priced_by-found bytes found

-- after tariffs that begin before it, a tariff that has begun is the latest that has
latest_new : (begun : AcceptedTerms → Bool) (tariffs : List AcceptedTerms) (new : AcceptedTerms)
    → list_all (λ tariff. precedes tariff new) tariffs ≡ true → begun new ≡ true
    → latest (filter begun (tariffs ++ new ∷ [])) ≡ Some new
latest_new begun [] new before has = ap (λ b. latest (cond b (new ∷ []) [])) has
latest_new begun (tariff ∷ tariffs) new before has =
    let own = first_of (precedes tariff new) (list_all (λ tariff. precedes tariff new) tariffs)
    before in
    let others = second_of (precedes tariff new) (list_all (λ tariff. precedes tariff new) tariffs)
    before in
    let rest : List AcceptedTerms = filter begun (tariffs ++ new ∷ []) in
    let last = latest_new begun tariffs new others has in
    elim (begun tariff) as (λ b. latest (cond b (tariff ∷ rest) rest) ≡ Some new) [
      | true ↦ ap (λ found. Some (option_map_or (later_of tariff) found tariff)) last
          ∙ ap (λ b. Some (cond b new tariff)) own
      | false ↦ last
    ]

-- so a record that is dated on its first day or later costs what it says
pub later_price : (rulings : Rulings) (text : Option (List ℕ)) (terms : Terms)
    → list_all (λ tariff. int_lt tariff.terms.effective terms.effective) rulings.tariffs ≡ true
    → (bytes : List ℕ) → int_lt (day_of bytes) terms.effective ≡ false
    → price_in (with_tariff text terms rulings) bytes ≡ Some (price_by terms bytes)
later_price rulings text terms before bytes late =
    ap (λ found. option_map (λ terms. price_by terms bytes)
    (option_map (λ (tariff : AcceptedTerms). tariff.terms) found))
    (latest_new (has_begun (day_of bytes)) rulings.tariffs
    (record { text = text; terms = terms }) before (ap not late))
