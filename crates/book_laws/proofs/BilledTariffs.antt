-- A bill has the tariffs by which the records are priced that its period counts, and of each day of
-- these the tariff in force is the last that has begun by then.
use Rattle.std.proofs.Common.{◌≡◌, ◌∙◌, ℕ, suc, Bool, true, false, true≢false, not, cond, ◌||◌}
use Rattle.std.proofs.Common.{List, [], ◌∷◌, ◌++◌, reverse, Option, Some, None, Ok, ap, arith, refl}
use Rattle.std.proofs.Common.{subst, sym, ℤ, pos, ◌+ℤ◌, Contains, filter, find, fold, if◌then◌else◌}
use Rattle.std.proofs.Common.{int_lt, slice_get, filter_map, option_map}
use Rattle.std.proofs.lemmas.Bool.{or_parts}
use Rattle.std.proofs.lemmas.List.Sums.{fold-append}
use Rattle.book_model.proofs.Std.{cons_option, list_any, option_map_or, option_or, result_ok, ints}
use Rattle.book_model.proofs.Std.{reverse-append, All-contains, Contains-append_right}
use Rattle.book_model.proofs.Std.{filter-append, filter_map-append, find-append}
use Rattle.book_model.specs.declared.bill.BilledTariff.{BilledTariff}
use Rattle.book_model.specs.Words.{AcceptedTerms, Book, Naming, Period, RulingSeen, TariffSeen}
use Rattle.book_model.specs.Words.{Terms, begins_by, billed_tariff, day_of, has, has_begun, in_force}
use Rattle.book_model.specs.Words.{in_force_from, is_dated_after, is_dated_through, latest}
use Rattle.book_model.specs.Words.{period_of, tariff_by, tariff_seen, tariffs_from, tariffs_in}
use Rattle.book_model.specs.Words.{tariffs_seen, tariffs_through, terms_in}
use Rattle.book_model.proofs.Lemmas.{close_at, begun-last, first_of, not_true, second_of}
use Rattle.table_model.specs.Words.{IsReadable, IsTexted}
use Rattle.bill_texts.specs.ShiftSums.{begun_by, since}
use Rattle.table_model.proofs.DetailReading.{in_windows}
use Rattle.table_model.proofs.PeriodPlaces.{at_place}
use Rattle.book_laws.specs.BillLaws.{BilledTariffsPrice}
use Rattle.book_laws.proofs.TariffStays.{day_after, tariffs_are, tariffs_at}

-- ---- the last that passes a test

-- an element of a list that passes, and after which none does
record IsLastOf {X : Type 0} (p : X → Bool) (xs : List X) (x : X) : Type 0 where
  front : List X
  behind : List X
  parts : xs ≡ front ++ x ∷ behind
  passes : p x ≡ true
  none : list_any p behind ≡ false

module _ {X : Type 0} (p : X → Bool) where
  -- what is found from behind, with one more in front
  pub found_more : (x : X) (xs : List X)
      → find p (reverse (x ∷ xs)) ≡ option_or (find p (reverse xs)) (cond (p x) (Some x) None)
  found_more x xs =
      ap (find p) (reverse-append (x ∷ []) xs) ∙ find-append p (reverse xs) (x ∷ [])

  -- where nothing is, none passes
  none_passes : (xs : List X) → find p (reverse xs) ≡ None → list_any p xs ≡ false
  none_passes [] nothing = refl
  none_passes (x ∷ xs) nothing =
      by (find p (reverse xs)) (p x) refl refl (none_passes xs) (sym (found_more x xs) ∙ nothing)
    where
      by : (later : Option X) (own : Bool) → find p (reverse xs) ≡ later → p x ≡ own
          → (find p (reverse xs) ≡ None → list_any p xs ≡ false)
          → option_or later (cond own (Some x) None) ≡ None
          → (p x || list_any p xs) ≡ false
      by None true at is rest nothing = cc nothing
      by None false at is rest nothing = let others = rest at in λ i. is i || others i
      by (Some y) own at is rest nothing = cc nothing

  -- and what is found is the last that passes
  last_found : (xs : List X) (x : X) → find p (reverse xs) ≡ Some x → IsLastOf p xs x
  last_found [] x found = cc found
  last_found (y ∷ ys) x found =
      by (find p (reverse ys)) (p y) refl refl (last_found ys) (sym (found_more y ys) ∙ found)
    where
      by : (later : Option X) (own : Bool) → find p (reverse ys) ≡ later → p y ≡ own
          → ((z : X) → find p (reverse ys) ≡ Some z → IsLastOf p ys z)
          → option_or later (cond own (Some y) None) ≡ Some x
          → IsLastOf p (y ∷ ys) x
      by None false at is rest found = cc found
      by None true at is rest found =
          let same : y ≡ x = cc in
          record {
            front = [];
            behind = ys;
            parts = ap (λ z. z ∷ ys) same;
            passes = ap p (sym same) ∙ is;
            none = none_passes ys at;
          }
      by (Some z) own at is rest found =
          let later = rest x (at ∙ found) in
          record {
            front = y ∷ later.front;
            behind = later.behind;
            parts = ap (λ others. y ∷ others) later.parts;
            passes = later.passes;
            none = later.none;
          }

-- ---- tariffs that have begun

-- what begins after a day begins after an earlier one
later_yet : (first day one : ℤ) → int_lt day first ≡ false → int_lt day one ≡ true
    → int_lt first one ≡ true
later_yet first day one after later = grind (arith, ints)

-- what begins by a day begins by a later one
sooner_yet : (last day one : ℤ) → int_lt last day ≡ false → int_lt day one ≡ false
    → int_lt last one ≡ false
sooner_yet last day one before sooner = grind (arith, ints)

-- a day after a close is not before the first one after it
from_next : (close day : ℤ) → int_lt close day ≡ true → int_lt day (close +ℤ pos 1) ≡ false
from_next close day after = grind (arith, ints)

-- a day begins no later than itself
on_itself : (day : ℤ) → int_lt day day ≡ false
on_itself day = grind (arith, ints)

-- where none of some passes, none of those of them does that pass another test
none_kept : {X : Type 0} (p q : X → Bool) (xs : List X) → list_any p xs ≡ false
    → list_any p (filter q xs) ≡ false
none_kept p q [] none = refl
none_kept p q (x ∷ xs) none =
    let parts = or_parts (p x) (list_any p xs) none in
    let rest = none_kept p q xs parts.1 in
    elim (q x) as (λ b. list_any p (cond b (x ∷ filter q xs) (filter q xs)) ≡ false) [
      | true ↦ λ i. parts.0 i || rest i
      | false ↦ rest
    ]

-- of those that are seen none has begun on a day, where none has on a later one
none_begun : (first day : ℤ) (tariffs : List AcceptedTerms) → int_lt day first ≡ false
    → list_any (has_begun day) tariffs ≡ false
    → list_any (begins_by first) (tariffs_seen tariffs) ≡ false
none_begun first day [] after none = refl
none_begun first day (tariff ∷ tariffs) after none =
    by (int_lt day tariff.terms.effective) tariff.text refl (none_begun first day tariffs after) none
  where
    by : (later : Bool) (text : Option (List ℕ)) → int_lt day tariff.terms.effective ≡ later
        → (list_any (has_begun day) tariffs ≡ false
        → list_any (begins_by first) (tariffs_seen tariffs) ≡ false)
        → (not later || list_any (has_begun day) tariffs) ≡ false
        → list_any (begins_by first) (cons_option (option_map (TariffSeen tariff.terms.effective) text)
        (tariffs_seen tariffs)) ≡ false
    by false text is rest never = absurd (true≢false never)
    by true None is rest none = rest none
    by true (Some text) is rest none =
        let later = later_yet first day tariff.terms.effective after is in
        let others = rest none in
        λ i. not (later i) || others i

-- a tariff after which none has begun on a day is left on it, with all behind it
left_from : (day : ℤ) (front : List RulingSeen) (one : RulingSeen) (behind : List RulingSeen)
    → list_any (begins_by day) behind ≡ false
    → (left : List RulingSeen) × (in_force_from day (front ++ one ∷ behind) ≡ left ++ one ∷ behind)
left_from day [] one behind none =
    ([], ap (λ b. if b then in_force_from day behind else one ∷ behind) none)
left_from day (first ∷ front) one behind none =
    by (list_any (begins_by day) (front ++ one ∷ behind)) (left_from day front one behind none)
  where
    by : (b : Bool)
        → (left : List RulingSeen)
        × (in_force_from day (front ++ one ∷ behind) ≡ left ++ one ∷ behind)
        → (left : List RulingSeen)
        × ((if b then in_force_from day (front ++ one ∷ behind) else first ∷ (front ++ one ∷ behind))
        ≡ left ++ one ∷ behind)
    by true rest = rest
    by false rest = (first ∷ front, refl)

-- ---- the last that has begun

-- a billed tariff has begun by a day
abbrev has_begun_by : ℤ → BilledTariff → Bool
has_begun_by day tariff = not (int_lt day tariff.day)

-- of what is billed of some none has begun by a day, where none of these has
unbegun : (day : ℤ) (all : List RulingSeen) → list_any (begins_by day) all ≡ false
    → list_any (has_begun_by day) (filter_map billed_tariff all) ≡ false
unbegun day [] none = refl
unbegun day (TariffSeen first text ∷ all) none =
    let parts = or_parts (not (int_lt day first)) (list_any (begins_by day) all) none in
    by (result_ok (terms_in text)) parts.0 (unbegun day all parts.1)
  where
    by : (told : Option Terms) → not (int_lt day first) ≡ false
        → list_any (has_begun_by day) (filter_map billed_tariff all) ≡ false
        → list_any (has_begun_by day)
        (cons_option (option_map (tariff_by first) told) (filter_map billed_tariff all)) ≡ false
    by None own rest = rest
    by (Some terms) own rest = λ i. own i || rest i
unbegun day (other ∷ all) none = unbegun day all none

-- what was found stays, where none of the others has begun
found_stays : (day found : ℤ) (behind : List BilledTariff)
    → list_any (has_begun_by day) behind ≡ false → fold (begun_by day) found behind ≡ found
found_stays day found [] none = refl
found_stays day found (first ∷ behind) none =
    let parts = or_parts (has_begun_by day first) (list_any (has_begun_by day) behind) none in
    ap (λ b. fold (begun_by day) (if b then found else first.day) behind)
    (not_false (int_lt day first.day) parts.0)
    ∙ found_stays day found behind parts.1
  where
    not_false : (b : Bool) → not b ≡ false → b ≡ true
    not_false true is = refl
    not_false false is = absurd (true≢false is)

-- so the last that has begun is found
since_last : (day : ℤ) (front : List BilledTariff) (last : BilledTariff)
    (behind : List BilledTariff) → int_lt day last.day ≡ false
    → list_any (has_begun_by day) behind ≡ false → since (front ++ last ∷ behind) day ≡ last.day
unfolding since
since_last day front last behind begun none =
    fold-append (begun_by day) day front (last ∷ behind)
    ∙ ap (λ b. fold (begun_by day) (if b then fold (begun_by day) day front else last.day) behind) begun
    ∙ found_stays day last.day behind none

-- ---- the tariffs of a period

module _ (tariffs : List AcceptedTerms) (bytes : List ℕ) (tariff : AcceptedTerms) (text : List ℕ)
    (its : IsLastOf (has_begun (day_of bytes)) tariffs tariff) (is : tariff.text ≡ Some text) where
  -- the tariff in force on the day of a record, as it is seen
  abbrev one : RulingSeen
  one = TariffSeen tariff.terms.effective text

  -- it stands among others, and of those behind it none has begun by that day
  abbrev IsAmong : List RulingSeen → Type 0
  IsAmong all =
      (front : List RulingSeen) × (behind : List RulingSeen) × (all ≡ front ++ one ∷ behind)
      × (list_any (begins_by (day_of bytes)) behind ≡ false)

  parted : tariffs_seen tariffs ≡ tariffs_seen its.front ++ one ∷ tariffs_seen its.behind
  parted =
      ap tariffs_seen its.parts
      ∙ filter_map-append tariff_seen its.front (tariff ∷ its.behind)
      ∙ ap (λ found. tariffs_seen its.front
      ++ cons_option (option_map (TariffSeen tariff.terms.effective) found) (tariffs_seen its.behind)) is

  later : list_any (begins_by (day_of bytes)) (tariffs_seen its.behind) ≡ false
  later = none_begun (day_of bytes) (day_of bytes) its.behind (on_itself (day_of bytes)) its.none

  -- among those from the first day of the period on,
  from_first : (close : Option ℤ) → is_dated_after close bytes ≡ true
      → IsAmong (tariffs_from (option_map day_after close) (tariffs_seen tariffs))
  from_first None dated = (tariffs_seen its.front, tariffs_seen its.behind, parted, later)
  from_first (Some close) dated =
      let none = none_begun (day_after close) (day_of bytes) its.behind
      (from_next close (day_of bytes) dated) its.none in
      let left = left_from (day_after close) (tariffs_seen its.front) one (tariffs_seen its.behind)
      none in
      (left.0, tariffs_seen its.behind, ap (in_force_from (day_after close)) parted ∙ left.1, later)

  -- and among those of them through its last
  through_last : (through : Option ℤ) (all : List RulingSeen)
      → option_map_or (λ day. is_dated_through day bytes) through true ≡ true
      → IsAmong all → IsAmong (tariffs_through through all)
  through_last None all dated among = among
  through_last (Some last) all dated among =
      let keep : List RulingSeen → List RulingSeen = filter (begins_by last) in
      let begun = sooner_yet last (day_of bytes) tariff.terms.effective
      (not_true (int_lt last (day_of bytes)) dated)
      (not_true (int_lt (day_of bytes) tariff.terms.effective) its.passes) in (
        keep among.0,
        keep among.1,
        ap keep among.2
            ∙ filter-append (begins_by last) among.0 (one ∷ among.1)
            ∙ ap (λ later. keep among.0 ++ cond (not later) (one ∷ keep among.1) (keep among.1)) begun,
        none_kept (begins_by (day_of bytes)) (begins_by last) among.1 among.3,
      )

  -- its rates
  abbrev billed : BilledTariff
  billed = tariff_by tariff.terms.effective tariff.terms

  -- where it is among some, these are among theirs,
  billed_parts : terms_in text ≡ Ok tariff.terms → (all : List RulingSeen) (among : IsAmong all)
      → filter_map billed_tariff all
      ≡ filter_map billed_tariff among.0 ++ billed ∷ filter_map billed_tariff among.1
  billed_parts said all among =
      ap (filter_map billed_tariff) among.2
      ∙ filter_map-append billed_tariff among.0 (one ∷ among.1)
      ∙ ap (λ told. filter_map billed_tariff among.0
      ++ cons_option (option_map (tariff_by tariff.terms.effective) (result_ok told))
      (filter_map billed_tariff among.1)) said

  billed_among : terms_in text ≡ Ok tariff.terms → (all : List RulingSeen) → IsAmong all
      → Contains (filter_map billed_tariff all) billed
  billed_among said all among =
      let front : List BilledTariff = filter_map billed_tariff among.0 in
      let behind : List BilledTariff = filter_map billed_tariff among.1 in
      subst (λ some. Contains some billed) (sym (billed_parts said all among))
      (Contains-append_right front (billed ∷ behind) billed (0, omega arith, refl))

  -- and of theirs it is the last that has begun
  billed_since : terms_in text ≡ Ok tariff.terms → (all : List RulingSeen) → IsAmong all
      → since (filter_map billed_tariff all) (day_of bytes) ≡ tariff.terms.effective
  billed_since said all among =
      let front : List BilledTariff = filter_map billed_tariff among.0 in
      let behind : List BilledTariff = filter_map billed_tariff among.1 in
      ap (λ some. since some (day_of bytes)) (billed_parts said all among)
      ∙ since_last (day_of bytes) front billed behind
      (not_true (int_lt (day_of bytes) tariff.terms.effective) its.passes)
      (unbegun (day_of bytes) among.1 among.3)

-- terms that are in force are those of a tariff
of_tariff : (found : Option AcceptedTerms) (terms : Terms)
    → option_map (λ (tariff : AcceptedTerms). tariff.terms) found ≡ Some terms
    → (tariff : AcceptedTerms) × (found ≡ Some tariff) × (tariff.terms ≡ terms)
of_tariff None terms is = cc is
of_tariff (Some tariff) terms is = let same : tariff.terms ≡ terms = cc in (tariff, refl, same)

-- terms stand on a bill that are in force on a day, and are the last of its tariffs that have begun
pub record IsBilledOn (day : ℤ) (tariffs : List BilledTariff) (terms : Terms) : Type 0 where
  pub among : Contains tariffs (tariff_by terms.effective terms)
  pub begun : since tariffs day ≡ terms.effective

-- so it is with those of the day of a record that the period counts
pub billed_on : (naming : Naming) (book : Book) (number : ℕ) (period : Period) (bytes : List ℕ)
    (terms : Terms) → IsReadable naming book → period_of book number ≡ Some period
    → has period.counted bytes ≡ true → in_force (day_of bytes) book.rulings.tariffs ≡ Some terms
    → IsBilledOn (day_of bytes) (filter_map billed_tariff (tariffs_in number book.rulings)) terms
billed_on naming book number period bytes terms whole is counted ruled =
    let tariffs : List AcceptedTerms = book.rulings.tariffs in
    let closes : List ℤ = book.rulings.closes in
    let place = at_place naming book whole.sound number period is in
    let at = place.1 in
    let own : number ≡ suc place.0 = omega arith in
    let dated = in_windows naming book whole place.0 period bytes place.2 counted in
    let late = first_of (is_dated_after (close_at closes place.0) bytes)
    (option_map_or (λ day. is_dated_through day bytes) (slice_get closes place.0) true) dated in
    let early = second_of (is_dated_after (close_at closes place.0) bytes)
    (option_map_or (λ day. is_dated_through day bytes) (slice_get closes place.0) true) dated in
    let found = of_tariff (latest (filter (has_begun (day_of bytes)) tariffs)) terms ruled in
    let tariff : AcceptedTerms = found.0 in
    let its = last_found (has_begun (day_of bytes)) tariffs tariff
    (sym (begun-last tariffs (day_of bytes) whole.rising) ∙ found.1) in
    let texted : IsTexted tariff =
    All-contains IsTexted tariffs tariff whole.texts
    (subst (λ all. Contains all tariff) (sym its.parts)
    (Contains-append_right its.front (tariff ∷ its.behind) tariff (0, omega arith, refl))) in
    let left = through_last tariffs bytes tariff texted.text its texted.is (slice_get closes place.0)
    (tariffs_from (option_map day_after (close_at closes place.0)) (tariffs_seen tariffs)) early
    (from_first tariffs bytes tariff texted.text its texted.is (close_at closes place.0) late) in
    let all : tariffs_in number book.rulings ≡ tariffs_at place.0 closes tariffs =
    ap (λ n. tariffs_in n book.rulings) own ∙ tariffs_are place.0 book.rulings in
    subst (IsBilledOn (day_of bytes) (filter_map billed_tariff (tariffs_in number book.rulings)))
    found.2
    (subst (λ some. IsBilledOn (day_of bytes) (filter_map billed_tariff some) tariff.terms) (sym all)
    (record {
      among = billed_among tariffs bytes tariff texted.text its texted.is texted.said
          (tariffs_at place.0 closes tariffs) left;
      begun = billed_since tariffs bytes tariff texted.text its texted.is texted.said
          (tariffs_at place.0 closes tariffs) left;
    }))

-- the law
pub billed_tariffs_price : BilledTariffsPrice
billed_tariffs_price naming book number period centre bytes terms whole is counted ruled =
    (billed_on naming book number period bytes terms whole is counted ruled).among
