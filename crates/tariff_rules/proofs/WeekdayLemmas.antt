-- A loop over the entries of an array of weekdays.
use Rattle.std.proofs.Common.{◌≡◌, ℕ, ◌+◌, ◌<◌, ◌≤◌, Bool, true, false, ◌&&◌, not, nat_le, ◌==◌}
use Rattle.std.proofs.Common.{if◌then◌else◌, List, [], ◌∷◌, ◌++◌, length, map, take, take_all, get_or}
use Rattle.std.proofs.Common.{Option, Some, None, refl, sym, ap, ◌∙◌, arith}
use Rattle.std.proofs.lemmas.Bool.Decides.{nat_tests}
use Rattle.std.proofs.lemmas.List.{length-map, map_more}
use Rattle.std.proofs.lemmas.List.Elements.{filter_map-append}
use Rattle.std.proofs.lemmas.List.Folds.{list_all-append, list_all-map, list_all_at}
use Rattle.std.specs.List.{filter_map, list_all}
use Rattle.toml.specs.View.{view}
use Rattle.toml.specs.declared.value.Value.{Value}
use Rattle.tariff_rules.specs.Limits.{days_per_week}
use Rattle.tariff_rules.specs.ShiftEntry.{is_weekday, weekday_in, weekdays_of}

-- the entries before the i-th are weekdays, and these are they
pub record AreDays (values : List Value) (i : ℕ) (days : List ℕ) : Type 0 where
  pub all : list_all is_weekday (map view (take i values)) ≡ true
  pub are : filter_map weekday_in (map view (take i values)) ≡ days

-- one more
pub one_more_day : (values : List Value) (i : ℕ) (d : Value) (days : List ℕ) (day : ℕ)
    → i < length values → AreDays values i days → weekday_in (view (get_or values i d)) ≡ Some day
    → AreDays values (i + 1) (days ++ day ∷ [])
one_more_day values i d days day within before is =
    let front = map view (take i values) in
    let here = view (get_or values i d) ∷ [] in
    let more : map view (take (i + 1) values) ≡ front ++ here = map_more view values i d within in
    record {
      all = ap (list_all is_weekday) more ∙ list_all-append is_weekday front here
          ∙ rw (before.all, is) refl;
      are = ap (filter_map weekday_in) more ∙ filter_map-append weekday_in front here
          ∙ rw (before.are, is) refl;
    }

-- one that is none
none_among : {A : Type 0} (some few all : Bool) (days : A) → all ≡ false
    → (if some && few && all then Some days else None) ≡ None
none_among false few all days is = refl
none_among true false all days is = refl
none_among true true true days is = absurd (cc)
none_among true true false days is = refl

pub no_weekday : (values : List Value) (i : ℕ) (d : Value) → i < length values
    → weekday_in (view (get_or values i d)) ≡ None → None ≡ weekdays_of (map view values)
no_weekday values i d within is =
    let entries = map view values in
    let some : list_all is_weekday entries ≡ false =
    list_all-map is_weekday view values
    ∙ list_all_at (λ (value : Value). is_weekday (view value)) values i d within (rw is refl) in
    sym (none_among (not (length entries == 0)) (nat_le (length entries) days_per_week)
    (list_all is_weekday entries) (filter_map weekday_in entries) some)

-- all of them
pub all_weekdays : (values : List Value) (i : ℕ) (days : List ℕ) → 0 < length values
    → length values ≤ days_per_week → length values ≤ i → AreDays values i days
    → Some days ≡ weekdays_of (map view values)
all_weekdays values i days some few past before =
    let entries = map view values in
    let whole : take i values ≡ values = take_all i values past in
    let all : list_all is_weekday entries ≡ true =
    sym (ap (λ (values : List Value). list_all is_weekday (map view values)) whole) ∙ before.all in
    let are : filter_map weekday_in entries ≡ days =
    sym (ap (λ (values : List Value). filter_map weekday_in (map view values)) whole)
    ∙ before.are in
    let long : length entries ≡ length values = length-map values view in
    let there : (length entries == 0) ≡ false = grind (arith, nat_tests) in
    let within : nat_le (length entries) days_per_week ≡ true = grind (arith, nat_tests) in
    rw (there, within, all, are) refl
