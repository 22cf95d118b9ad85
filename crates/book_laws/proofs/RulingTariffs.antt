-- Each tariff of a bill is in force on some day of the period: on its own first day, if that comes
-- after the close before the period, or else on the first day of the period.
use Rattle.std.proofs.Common.{◌≡◌, ◌∙◌, ℕ, zero, suc, ◌-◌, Bool, true, false, not, cond, ◌||◌, List}
use Rattle.std.proofs.Common.{[], ◌∷◌, map, reverse, Option, Some, None, unwrap_or, ap, arith, refl}
use Rattle.std.proofs.Common.{subst, sym, ℤ, pos, ◌+ℤ◌, ◌<ℤ◌, ◌&&◌, All, IfSome, filter, find}
use Rattle.std.proofs.Common.{if◌then◌else◌, int_lt, slice_get, filter_map, option_map, int_cmp}
use Rattle.std.proofs.lemmas.Bool.{or_parts}
use Rattle.book_model.proofs.Std.{cons_option, list_all, list_any, IsStrictlySortedBy}
use Rattle.book_model.proofs.Std.{option_map_or, option_or, result_ok, ints, All-cons, All-filter}
use Rattle.book_model.proofs.Std.{All-head, All-nil, All-tail, filter_passes}
use Rattle.book_model.specs.declared.bill.BilledTariff.{BilledTariff}
use Rattle.book_model.specs.Words.{through_of, AcceptedTerms, RulingSeen, Rulings, TariffSeen}
use Rattle.book_model.specs.Words.{are_rising, begins_by, billed_tariff, has_begun, in_force_from}
use Rattle.book_model.specs.Words.{is_between, is_day_of, is_through, tariff_by, tariffs_from}
use Rattle.book_model.specs.Words.{tariffs_in, tariffs_seen, tariffs_through, terms_in}
use Rattle.book_model.proofs.Lemmas.{close_at, begun-last, list_any-map, first_of, second_of}
use Rattle.book_model.proofs.LatestLemmas.{precedes}
use Rattle.table_model.specs.Words.{IsTexted}
use Rattle.book_laws.specs.BillLaws.{BilledTariffsRule, IsInForceIn}
use Rattle.book_laws.proofs.BilledTariffs.{found_more}
use Rattle.book_laws.proofs.TariffStays.{day_after, rise_at, tariffs_are}
use Rattle.book_laws.proofs.Words.{through_at, at_place}

-- ---- days

same_day : (day : ℤ) → int_lt day day ≡ false
same_day day = grind (arith, ints)

next_after : (close : ℤ) → int_lt close (close +ℤ pos 1) ≡ true
next_after close = grind (arith, ints)

-- what does not begin after a close has begun on the day after it
begun_next : (close day : ℤ) → int_lt close day ≡ false → int_lt (close +ℤ pos 1) day ≡ false
begun_next close day early = grind (arith, ints)

-- that day is no later than the next close
until_next : (close end : ℤ) → close <ℤ end → int_lt end (close +ℤ pos 1) ≡ false
until_next close end ordered = grind (arith, ints)

-- the second close, if there was one, is later than the first, if there was one
abbrev AreOrdered : Option ℤ → Option ℤ → Type 0
AreOrdered close last = (first end : ℤ) → close ≡ Some first → last ≡ Some end → first <ℤ end

-- so the day after the first is between them
next_between : (first : ℤ) (last : Option ℤ) → AreOrdered (Some first) last
    → is_between (Some first) last (day_after first) ≡ true
next_between first None ordered = λ i. next_after first i && true
next_between first (Some end) ordered =
    λ i. next_after first i && not (until_next first end (ordered first end refl refl) i)

-- closes one after the other are ordered
closes_ordered : (closes : List ℤ) (k : ℕ) → IsStrictlySortedBy int_cmp closes
    → AreOrdered (close_at closes k) (slice_get closes k)
closes_ordered closes zero rising first end at there = cc at
closes_ordered closes (suc k) rising first end at there =
    rise_at closes k (suc k) first end rising (omega arith) at there

-- the days of a period
days_are : (number k : ℕ) (rulings : Rulings) (day : ℤ) → number ≡ suc k
    → is_day_of number rulings day
    ≡ is_between (close_at rulings.closes k) (slice_get rulings.closes k) day
days_are number k rulings day own =
    let place : number - 1 ≡ k = omega arith in
    let before : through_of (number - 1) rulings ≡ close_at rulings.closes k =
    ap (λ n. through_of n rulings) place ∙ through_at k rulings in
    let at : through_of number rulings ≡ slice_get rulings.closes k =
    ap (λ n. through_of n rulings) own ∙ through_at (suc k) rulings in
    λ i. is_between (before i) (at i) day

-- ---- what passes a test

module _ {X : Type 0} (p : X → Bool) where
  -- where none passes, none is found
  none_found : (xs : List X) → list_any p xs ≡ false → find p (reverse xs) ≡ None
  none_found [] none = refl
  none_found (x ∷ xs) none =
      let both = or_parts (p x) (list_any p xs) none in
      found_more p x xs
      ∙ (λ i. option_or (none_found xs both.1 i) (cond (both.0 i) (Some x) None))

  -- one that passes is found, where none behind it does
  first_found : (x : X) (xs : List X) → p x ≡ true → list_any p xs ≡ false
      → find p (reverse (x ∷ xs)) ≡ Some x
  first_found x xs passes none =
      found_more p x xs
      ∙ (λ i. option_or (none_found xs none i) (cond (passes i) (Some x) None))

module _ {X Y : Type 0} (Q : Y → Type 0) (h : X → Option Y) where
  -- what holds of whatever each gives holds of all that they give
  all_given : (xs : List X) → All (λ x. IfSome (h x) Q) xs → All Q (filter_map h xs)
  all_given [] all = All-nil Q
  all_given (x ∷ xs) all =
      by (h x) (All-head (λ x. IfSome (h x) Q) x xs all)
      (all_given xs (All-tail (λ x. IfSome (h x) Q) x xs all))
    where
      by : (given : Option Y) → IfSome given Q → All Q (filter_map h xs)
          → All Q (cons_option given (filter_map h xs))
      by None own others = others
      by (Some y) own others = All-cons Q y (filter_map h xs) own others

-- ---- tariffs as they are seen

-- a tariff that has a text, as it is seen
abbrev seen_of : AcceptedTerms → RulingSeen
seen_of tariff = TariffSeen tariff.terms.effective (unwrap_or tariff.text [])

seen_all : (tariffs : List AcceptedTerms) → All IsTexted tariffs
    → tariffs_seen tariffs ≡ map seen_of tariffs
seen_all [] texts = refl
seen_all (tariff ∷ behind) texts =
    let day : ℤ = tariff.terms.effective in
    let its : IsTexted tariff = All-head IsTexted tariff behind texts in
    let rest = seen_all behind (All-tail IsTexted tariff behind texts) in
    ap (λ text. cons_option (option_map (TariffSeen day) text) (tariffs_seen behind)) its.is
    ∙ (λ i. TariffSeen day (unwrap_or (sym its.is i) []) ∷ rest i)

-- those of which none has begun on a day are all left
all_left : (day : ℤ) (tariffs : List AcceptedTerms) → list_any (has_begun day) tariffs ≡ false
    → in_force_from day (map seen_of tariffs) ≡ map seen_of tariffs
all_left day [] none = refl
all_left day (tariff ∷ behind) none =
    ap (λ b. if b then in_force_from day (map seen_of behind) else map seen_of (tariff ∷ behind))
    (list_any-map (begins_by day) seen_of behind
    ∙ (or_parts (has_begun day tariff) (list_any (has_begun day) behind) none).1)

-- what begins later than a tariff has not begun on its first day
none_yet : (tariff : AcceptedTerms) (behind : List AcceptedTerms)
    → list_all (precedes tariff) behind ≡ true
    → list_any (has_begun tariff.terms.effective) behind ≡ false
none_yet tariff [] later = refl
none_yet tariff (next ∷ behind) later =
    let own = first_of (precedes tariff next) (list_all (precedes tariff) behind) later in
    let others = none_yet tariff behind
    (second_of (precedes tariff next) (list_all (precedes tariff) behind) later) in
    λ i. not (own i) || others i

-- ---- what is billed

-- the rates of a tariff
abbrev rates_of : AcceptedTerms → BilledTariff
rates_of tariff = tariff_by tariff.terms.effective tariff.terms

-- if it begins by a day, if there is one, this holds of its rates
abbrev Bills : Option ℤ → (BilledTariff → Type 0) → RulingSeen → Type 0
Bills last Q seen =
    option_map_or (λ day. begins_by day seen) last true ≡ true → IfSome (billed_tariff seen) Q

-- none of these has begun by the first day after a close, if there was one
abbrev AreUnbegun : Option ℤ → List AcceptedTerms → Type 0
AreUnbegun close tariffs =
    option_map_or (λ day. list_any (has_begun (day_after day)) tariffs) close false ≡ false

module _ (last : Option ℤ) (Q : BilledTariff → Type 0) where
  -- this holds of the rates of each tariff that is found on a day after a close and through the last
  abbrev Rules : Option ℤ → List AcceptedTerms → Type 0
  Rules close tariffs = (day : ℤ) (tariff : AcceptedTerms) → is_between close last day ≡ true
      → find (has_begun day) (reverse tariffs) ≡ Some tariff → Q (rates_of tariff)

  -- so it does of those behind the first of them
  rules_behind : (close : Option ℤ) (first : AcceptedTerms) (behind : List AcceptedTerms)
      → Rules close (first ∷ behind) → Rules close behind
  rules_behind close first behind rules day tariff within found =
      rules day tariff within
      (found_more (has_begun day) first behind
      ∙ ap (λ later. option_or later (cond (has_begun day first) (Some first) None)) found)

  -- and of the rates of a tariff behind which none has begun by the first day
  ruled : (close : Option ℤ) (tariff : AcceptedTerms) (behind : List AcceptedTerms)
      → AreOrdered close last → Rules close (tariff ∷ behind)
      → list_any (has_begun tariff.terms.effective) behind ≡ false → AreUnbegun close behind
      → is_through last tariff.terms.effective ≡ true → Q (rates_of tariff)
  ruled None tariff behind ordered rules later none begins =
      let own : ℤ = tariff.terms.effective in
      rules own tariff begins
      (first_found (has_begun own) tariff behind (ap not (same_day own)) later)
  ruled (Some close) tariff behind ordered rules later none begins =
      let own : ℤ = tariff.terms.effective in
      elim (int_lt close own) as (λ b. int_lt close own ≡ b → Q (rates_of tariff)) [
        | true ↦ λ after.
            rules own tariff (λ i. after i && begins i)
            (first_found (has_begun own) tariff behind (ap not (same_day own)) later)
        | false ↦ λ early.
            rules (day_after close) tariff (next_between close last ordered)
            (first_found (has_begun (day_after close)) tariff behind
            (ap not (begun_next close own early)) none)
      ] refl

  bills : (close : Option ℤ) (tariff : AcceptedTerms) (behind : List AcceptedTerms)
      → AreOrdered close last → Rules close (tariff ∷ behind)
      → are_rising (tariff ∷ behind) ≡ true → IsTexted tariff → AreUnbegun close behind
      → Bills last Q (seen_of tariff)
  bills close tariff behind ordered rules rising its none begins =
      let day : ℤ = tariff.terms.effective in
      let later = none_yet tariff behind
      (first_of (list_all (precedes tariff) behind) (are_rising behind) rising) in
      subst (λ text. IfSome (option_map (tariff_by day) (result_ok (terms_in (unwrap_or text [])))) Q)
      (sym its.is)
      (subst (λ told. IfSome (option_map (tariff_by day) (result_ok told)) Q) (sym its.said)
      (ruled close tariff behind ordered rules later none begins))

  -- so of all tariffs, where no close came before,
  first_bill : (tariffs : List AcceptedTerms) → AreOrdered None last → Rules None tariffs
      → are_rising tariffs ≡ true → All IsTexted tariffs → All (Bills last Q) (map seen_of tariffs)
  first_bill [] ordered rules rising texts = All-nil (Bills last Q)
  first_bill (tariff ∷ behind) ordered rules rising texts =
      All-cons (Bills last Q) (seen_of tariff) (map seen_of behind)
      (bills None tariff behind ordered rules rising (All-head IsTexted tariff behind texts) refl)
      (first_bill behind ordered (rules_behind None tariff behind rules)
      (second_of (list_all (precedes tariff) behind) (are_rising behind) rising)
      (All-tail IsTexted tariff behind texts))

  -- and of those from the one on that is in force on the first day after a close
  later_bill : (close : ℤ) (tariffs : List AcceptedTerms) → AreOrdered (Some close) last
      → Rules (Some close) tariffs → are_rising tariffs ≡ true → All IsTexted tariffs
      → All (Bills last Q) (in_force_from (day_after close) (map seen_of tariffs))
  later_bill close [] ordered rules rising texts = All-nil (Bills last Q)
  later_bill close (tariff ∷ behind) ordered rules rising texts =
      let day : ℤ = day_after close in
      let others : List RulingSeen = map seen_of behind in
      let its = All-head IsTexted tariff behind texts in
      let rest = later_bill close behind ordered (rules_behind (Some close) tariff behind rules)
      (second_of (list_all (precedes tariff) behind) (are_rising behind) rising)
      (All-tail IsTexted tariff behind texts) in
      subst (λ b. All (Bills last Q) (if b then in_force_from day others else seen_of tariff ∷ others))
      (sym (list_any-map (begins_by day) seen_of behind))
      (elim (list_any (has_begun day) behind) as (λ b. list_any (has_begun day) behind ≡ b
      → All (Bills last Q) (if b then in_force_from day others else seen_of tariff ∷ others)) [
        | true ↦ λ begun. rest
        | false ↦ λ none.
            All-cons (Bills last Q) (seen_of tariff) others
            (bills (Some close) tariff behind ordered rules rising its none)
            (subst (All (Bills last Q)) (all_left day behind none) rest)
      ] refl)

  all_bill : (close : Option ℤ) (tariffs : List AcceptedTerms) → AreOrdered close last
      → Rules close tariffs → are_rising tariffs ≡ true → All IsTexted tariffs
      → All (Bills last Q) (tariffs_from (option_map day_after close) (map seen_of tariffs))
  all_bill None tariffs ordered rules rising texts = first_bill tariffs ordered rules rising texts
  all_bill (Some close) tariffs ordered rules rising texts =
      later_bill close tariffs ordered rules rising texts

-- and it holds of all that are billed
all_billed : (last : Option ℤ) (Q : BilledTariff → Type 0) (seen : List RulingSeen)
    → All (Bills last Q) seen → All Q (filter_map billed_tariff (tariffs_through last seen))
all_billed None Q seen all = all_given Q billed_tariff seen (λ k d within. all k d within refl)
all_billed (Some last) Q seen all =
    let kept = All-filter (begins_by last) (Bills (Some last) Q) seen all in
    let passes = filter_passes (begins_by last) seen in
    all_given Q billed_tariff (filter (begins_by last) seen)
    (λ k d within. kept k d within (passes k d within))

-- the law
pub billed_tariffs_rule : BilledTariffsRule
billed_tariffs_rule naming book number period centre whole is =
    let rulings : Rulings = book.rulings in
    let tariffs : List AcceptedTerms = rulings.tariffs in
    let place = at_place naming book whole.sound number period is in
    let at = place.1 in
    let own : number ≡ suc place.0 = omega arith in
    let close : Option ℤ = close_at rulings.closes place.0 in
    let last : Option ℤ = slice_get rulings.closes place.0 in
    let seen : List RulingSeen = tariffs_from (option_map day_after close) (map seen_of tariffs) in
    let all : tariffs_in number rulings ≡ tariffs_through last seen =
    ap (λ n. tariffs_in n rulings) own ∙ tariffs_are place.0 rulings
    ∙ ap (λ seen. tariffs_through last (tariffs_from (option_map day_after close) seen))
    (seen_all tariffs whole.texts) in
    subst (λ some. All (IsInForceIn number rulings) (filter_map billed_tariff some)) (sym all)
    (all_billed last (IsInForceIn number rulings) seen
    (all_bill last (IsInForceIn number rulings) close tariffs
    (closes_ordered rulings.closes place.0 whole.in_order)
    (λ day tariff within found. record {
      day = day;
      terms = tariff.terms;
      its_day = days_are number place.0 rulings day own ∙ within;
      rules = ap (option_map (λ (tariff : AcceptedTerms). tariff.terms))
          (begun-last tariffs day whole.rising ∙ found);
      rates = refl;
    }) whole.rising whole.texts))
