-- How prices came about: the rules that are named have what the price has. And what rates mean.
use Rattle.std.proofs.Common.{◌≡◌, ℕ, suc, ◌+◌, ◌-◌, ◌*◌, ◌/◌, List, length, refl, sym, ap, ◌∙◌}
use Rattle.std.proofs.Common.{true, false, cond, Option, Some, None, arith, Bool, find, nat_lt}
use Rattle.std.proofs.Common.{slice_get, position, option_and_then, option_map, ltb-false}
use Rattle.std.specs.List.{position_or_len}
use Rattle.std.proofs.lemmas.List.Folds.{find_at}
use Rattle.std.proofs.lemmas.Option.{same_Some, slice_get_past}
use Rattle.smf_text.specs.Day.{weekday_of}
use Rattle.tariff_rules.specs.Price.{applies_to, centre_by, has_moment, minute_of, parts_of}
use Rattle.tariff_rules.specs.Price.{shift_by}
use Rattle.book_model.specs.Words.{day_of, time_of, Reckoning, Terms, in_force, price_by}
use Rattle.book_model.specs.Words.{reckoning_by, rule_number, rule_numbered}
use Rattle.book_laws.specs.ReckoningLaws.{IsNearest, PricesAreReckoned, RatesSayWhatIsCharged}
use Rattle.book_laws.specs.ReckoningLaws.{ReckonsPrice}

-- the element in the place of the first that passes is the first that passes
found_there : {X : Type 0} (p : X → Bool) (xs : List X)
    → option_and_then (slice_get xs) (position p xs) ≡ find p xs
found_there p xs =
    let at : ℕ = position_or_len p xs in
    elim (nat_lt at (length xs)) as (λ b. nat_lt at (length xs) ≡ b
    → option_and_then (slice_get xs) (cond b (Some at) None) ≡ find p xs) [
      | true ↦ λ within. sym (find_at p xs)
      | false ↦ λ past.
          let after = ltb-false at (length xs) past in
          sym (find_at p xs ∙ slice_get_past xs at (omega arith))
    ] refl

-- the number of a place is one more
numbered : {X : Type 0} (xs : List X) (place : Option ℕ)
    → rule_numbered xs (option_map suc place) ≡ option_and_then (slice_get xs) place
numbered xs None = refl
numbered xs (Some at) =
    let place : suc at - 1 ≡ at = omega arith in
    ap (slice_get xs) place

-- so the rule that has the number of the first that passes is that one
rule_found : {X : Type 0} (p : X → Bool) (xs : List X)
    → rule_numbered xs (rule_number p xs) ≡ find p xs
rule_found p xs = numbered xs (position p xs) ∙ found_there p xs

-- what is reckoned by some terms
reckons : (terms : Terms) (bytes : List ℕ) → ReckonsPrice terms bytes (reckoning_by terms bytes)
reckons terms bytes =
    let moment = has_moment (weekday_of (day_of bytes)) (minute_of (time_of bytes)) in
    let shift = rule_found moment terms.shifts in record {
      shift = ap (λ found. (shift_by found).name) shift;
      percent = ap (λ found. (shift_by found).percent) shift;
      centre = ap centre_by (rule_found (applies_to bytes) terms.centres);
      amount = refl;
    }

-- where something is reckoned, the price is that of the reckoning
priced : (terms : Option Terms) (bytes : List ℕ) (reckoning : Reckoning)
    → option_map (λ terms. reckoning_by terms bytes) terms ≡ Some reckoning
    → option_map (λ terms. price_by terms bytes) terms ≡ Some reckoning.priced
priced None bytes reckoning is = cc
priced (Some terms) bytes reckoning is =
    ap (λ (found : Reckoning). Some found.priced) (same_Some _ _ is)

-- the law
pub prices_are_reckoned : PricesAreReckoned
prices_are_reckoned = record {
  rules = reckons;
  price = λ rulings bytes reckoning is.
      priced (in_force (day_of bytes) rulings.tariffs) bytes reckoning is;
}

-- parts are rounded to the nearest whole number
rounded : (parts : ℕ) → IsNearest parts ((parts + 50_000) / 100_000)
rounded parts = record { above = omega arith; below = omega arith }

-- those of a whole number come to it
come_to : (whole : ℕ) → (100_000 * whole + 50_000) / 100_000 ≡ whole
come_to whole = omega arith

-- whole seconds and thousands of blocks have such parts
make_whole : (seconds thousands cpu excp fee : ℕ)
    → (10 * (100 * seconds) * cpu + 1000 * thousands * excp + 1000 * fee) * 100
    ≡ 100_000 * (seconds * cpu + thousands * excp + fee)
make_whole seconds thousands cpu excp fee = omega arith

-- the law of rates
pub rates_say_what_is_charged : RatesSayWhatIsCharged
rates_say_what_is_charged = record {
  whole = λ rates seconds thousands.
      ap (λ parts. (parts + 50_000) / 100_000)
      (make_whole seconds thousands rates.cpu rates.excp rates.record_fee)
      ∙ come_to (seconds * rates.cpu + thousands * rates.excp + rates.record_fee);
  nearest = λ rates percent cpu excp. rounded (parts_of rates cpu excp * percent);
}
