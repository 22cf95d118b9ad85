-- The tariffs of a closed period's days stay: those that come later begin after these days.
use Rattle.std.proofs.Common.{◌≡◌, ℕ, zero, suc, ◌-◌, ◌<◌, List, [], ◌∷◌, ◌++◌, length, get_or}
use Rattle.std.proofs.Common.{refl, sym, ap, ◌∙◌, subst, true, false, cond, not, Option, Some, None}
use Rattle.std.proofs.Common.{append-nil, arith, ℤ, pos, ◌+ℤ◌, ◌<ℤ◌, int_lt, filter, slice_get}
use Rattle.std.proofs.Common.{MatchOption, if◌then◌else◌, option_map, int_cmp, length-append, map}
use Rattle.std.proofs.Common.{Bool, ◌||◌, true≢false}
use Rattle.std.proofs.lemmas.Bool.Decides.{Decides-int_eq}
use Rattle.std.specs.List.Sorted.{IsStrictlySortedBy}
use Rattle.std.proofs.lemmas.Map.Keys.{Less-from_sorted}
use Rattle.book_model.proofs.Std.{cons_option, false_from_ne_true, last_or, list_any, ints}
use Rattle.book_model.proofs.Std.{filter-append, filter_map-append}
use Rattle.book_model.proofs.Std.{get_or_from_slice_get, slice_get-get_or, slice_get_within}
use Rattle.book_model.specs.Words.{AcceptedTerms, Book, Event, Naming, PeriodClosed, after_all}
use Rattle.book_model.specs.Words.{RulingGiven, Rulings, RulingSeen, TariffAccepted, TariffSeen}
use Rattle.book_model.specs.Words.{Terms, begins_by, begun_in, in_force_from, tariff_seen}
use Rattle.book_model.specs.Words.{tariffs_from, tariffs_in, tariffs_seen, tariffs_through}
use Rattle.book_model.specs.Words.{through_of}
use Rattle.book_model.specs.Words.{TariffReplaced, is_after, is_effective, last_close, or_new}
use Rattle.book_model.proofs.Lemmas.{calls_go_forward, close_at, replace_passes, slice_get-front}
use Rattle.book_model.proofs.CountedDays.{through_at}
use Rattle.table_model.proofs.CloseOrder.{earlier as is_earlier, first_earlier}
use Rattle.book_reports.proofs.KeptTariffLemmas.{in_force_push}
use Rattle.book_laws.proofs.LaterLemmas.{rise_later}
use Rattle.book_model.specs.MadeByCalls.{AreMadeOf}

-- of rising days one that stands before another is earlier
pub rise_at : (days : List ℤ) (j k : ℕ) (one other : ℤ) → IsStrictlySortedBy int_cmp days → j < k
    → slice_get days j ≡ Some one → slice_get days k ≡ Some other → one <ℤ other
rise_at days j k one other rising before first second =
    let less = Less-from_sorted int_cmp days j k (pos 0) rising before
    (slice_get_within days k other second) in
    let first_is = get_or_from_slice_get days j one (pos 0) first in
    let second_is = get_or_from_slice_get days k other (pos 0) second in
    is_earlier one other ((λ i. int_cmp (sym first_is i) (sym second_is i)) ∙ less)

-- what is later than the last of them is later than each
pub after_each : (days : List ℤ) (k : ℕ) (one day : ℤ) → IsStrictlySortedBy int_cmp days
    → slice_get days k ≡ Some one
    → MatchOption (last_or None days) (Unit {0}) (λ last. last <ℤ day) → one <ℤ day
unfolding IsStrictlySortedBy
after_each [] k one day rising found later = cc
after_each (first ∷ days) zero one day rising found later =
    let same : first ≡ one = cc in
    subst (λ (one : ℤ). one <ℤ day) same (first_earlier first days day rising later)
after_each (first ∷ []) (suc k) one day rising found later = cc
after_each (first ∷ next ∷ days) (suc k) one day rising found later =
    after_each (next ∷ days) k one day rising.1 found later

-- a tariff that begins later has not begun
is_under : (last day : ℤ) → last <ℤ day → int_lt last day ≡ true
is_under last day later = grind (arith, ints)

not_begun : (last day : ℤ) (text : List ℕ) → last <ℤ day
    → begins_by last (TariffSeen day text) ≡ false
not_begun last day text later = ap not (is_under last day later)

-- the day after a close comes no later than the next close
next_under : (close last day : ℤ) → close <ℤ last → last <ℤ day → (close +ℤ pos 1) <ℤ day
next_under close last day before after = omega (arith, ints)

-- a tariff that has not begun ends no other
late_behind : (day : ℤ) (one : RulingSeen) → begins_by day one ≡ false → (tariffs : List RulingSeen)
    → in_force_from day (tariffs ++ one ∷ []) ≡ in_force_from day tariffs ++ one ∷ []
late_behind day one late tariffs =
    in_force_push day tariffs one
    ∙ ap (λ begun. (if begun then [] else in_force_from day tariffs) ++ one ∷ []) late

-- the first day after a close
abbrev pub day_after : ℤ → ℤ
day_after close = close +ℤ pos 1

-- the tariffs in force on the days of the period after so many closes
abbrev pub tariffs_at : ℕ → List ℤ → List AcceptedTerms → List RulingSeen
tariffs_at k closes tariffs =
    tariffs_through (slice_get closes k)
    (tariffs_from (option_map day_after (close_at closes k)) (tariffs_seen tariffs))

-- the close before it
before_is : (k : ℕ) (rulings : Rulings)
    → through_of (suc k - 1) rulings ≡ close_at rulings.closes k
before_is k rulings =
    let place : suc k - 1 ≡ k = omega arith in
    ap (λ n. through_of n rulings) place ∙ through_at k rulings

pub tariffs_are : (k : ℕ) (rulings : Rulings)
    → tariffs_in (suc k) rulings ≡ tariffs_at k rulings.closes rulings.tariffs
tariffs_are k rulings =
    let before = before_is k rulings in
    let at = through_at (suc k) rulings in
    λ i. tariffs_through (at i)
    (tariffs_from (option_map day_after (before i)) (tariffs_seen rulings.tariffs))

-- one more close changes none of them
before_stays : (closes : List ℤ) (day : ℤ) (k : ℕ) → k < length closes
    → close_at (closes ++ day ∷ []) k ≡ close_at closes k
before_stays closes day zero within = refl
before_stays closes day (suc k) within = slice_get-front closes day k (omega arith)

close_leaves : (closes : List ℤ) (tariffs : List AcceptedTerms) (day : ℤ) (k : ℕ)
    → k < length closes → tariffs_at k (closes ++ day ∷ []) tariffs ≡ tariffs_at k closes tariffs
close_leaves closes tariffs day k within =
    let at = slice_get-front closes day k within in
    let before = before_stays closes day k within in
    λ i. tariffs_through (at i)
    (tariffs_from (option_map day_after (before i)) (tariffs_seen tariffs))

-- nor does one more tariff: it begins after the first day of the period,
from_first : (closes : List ℤ) (k : ℕ) (last day : ℤ) (text : List ℕ) (tariffs : List RulingSeen)
    → IsStrictlySortedBy int_cmp closes → slice_get closes k ≡ Some last → last <ℤ day
    → tariffs_from (option_map day_after (close_at closes k)) (tariffs ++ TariffSeen day text ∷ [])
    ≡ tariffs_from (option_map day_after (close_at closes k)) tariffs ++ TariffSeen day text ∷ []
from_first closes zero last day text tariffs rising there after = refl
from_first closes (suc k) last day text tariffs rising there after =
    let within = slice_get_within closes (suc k) last there in
    let close : ℤ = get_or closes k (pos 0) in
    let at : slice_get closes k ≡ Some close = slice_get-get_or closes k (pos 0) (omega arith) in
    let before = rise_at closes k (suc k) close last rising (omega arith) at there in
    let late = not_begun (day_after close) day text (next_under close last day before after) in
    let one : RulingSeen = TariffSeen day text in
    ap (λ close. tariffs_from (option_map day_after close) (tariffs ++ one ∷ [])) at
    ∙ late_behind (day_after close) one late tariffs
    ∙ sym (ap (λ close. tariffs_from (option_map day_after close) tariffs ++ one ∷ []) at)

-- and after its last
late_through : (through : Option ℤ) (last day : ℤ) (text : List ℕ) (front : List RulingSeen)
    → through ≡ Some last → last <ℤ day
    → tariffs_through through (front ++ TariffSeen day text ∷ []) ≡ tariffs_through through front
late_through through last day text front there after =
    let one : RulingSeen = TariffSeen day text in
    ap (λ through. tariffs_through through (front ++ one ∷ [])) there
    ∙ filter-append (begins_by last) front (one ∷ [])
    ∙ ap (λ b. filter (begins_by last) front ++ cond b (one ∷ []) []) (not_begun last day text after)
    ∙ append-nil (filter (begins_by last) front)
    ∙ sym (ap (λ through. tariffs_through through front) there)

tariff_leaves : (closes : List ℤ) (tariffs : List AcceptedTerms) (text : List ℕ) (terms : Terms)
    (k : ℕ) → IsStrictlySortedBy int_cmp closes → k < length closes
    → MatchOption (last_or None closes) (Unit {0}) (λ close. close <ℤ terms.effective)
    → tariffs_at k closes (tariffs ++ record { text = Some text; terms = terms } ∷ [])
    ≡ tariffs_at k closes tariffs
tariff_leaves closes tariffs text terms k rising within later =
    let last : ℤ = get_or closes k (pos 0) in
    let there : slice_get closes k ≡ Some last = slice_get-get_or closes k (pos 0) within in
    let after = after_each closes k last terms.effective rising there later in
    let accepted : AcceptedTerms = record { text = Some text; terms = terms } in
    let front : List RulingSeen =
    tariffs_from (option_map day_after (close_at closes k)) (tariffs_seen tariffs) in
    ap (λ seen. tariffs_through (slice_get closes k)
    (tariffs_from (option_map day_after (close_at closes k)) seen))
    (filter_map-append tariff_seen tariffs (accepted ∷ []))
    ∙ ap (tariffs_through (slice_get closes k))
    (from_first closes k last terms.effective text (tariffs_seen tariffs) rising there after)
    ∙ late_through (slice_get closes k) last terms.effective text front there after

-- the tariffs that begin by the last day of the period after so many closes
abbrev pub begun_at : ℕ → List ℤ → List AcceptedTerms → List RulingSeen
begun_at k closes tariffs = tariffs_through (slice_get closes k) (tariffs_seen tariffs)

begun_are : (k : ℕ) (rulings : Rulings)
    → begun_in (suc k) rulings ≡ begun_at k rulings.closes rulings.tariffs
begun_are k rulings =
    ap (λ through. tariffs_through through (tariffs_seen rulings.tariffs)) (through_at (suc k) rulings)

-- one more tariff is none of them
tariff_comes_late : (closes : List ℤ) (tariffs : List AcceptedTerms) (text : List ℕ) (terms : Terms)
    (k : ℕ) → IsStrictlySortedBy int_cmp closes → k < length closes
    → MatchOption (last_or None closes) (Unit {0}) (λ close. close <ℤ terms.effective)
    → begun_at k closes (tariffs ++ record { text = Some text; terms = terms } ∷ [])
    ≡ begun_at k closes tariffs
tariff_comes_late closes tariffs text terms k rising within later =
    let last : ℤ = get_or closes k (pos 0) in
    let there : slice_get closes k ≡ Some last = slice_get-get_or closes k (pos 0) within in
    let after = after_each closes k last terms.effective rising there later in
    let accepted : AcceptedTerms = record { text = Some text; terms = terms } in
    ap (tariffs_through (slice_get closes k))
    (filter_map-append tariff_seen tariffs (accepted ∷ []))
    ∙ late_through (slice_get closes k) last terms.effective text (tariffs_seen tariffs) there after

-- ---- nor does a tariff in the place of another, which begins after its last

-- what has begun on a day has begun on a later one
begun_later : (at last : ℤ) → int_lt last at ≡ false → (ruling : RulingSeen)
    → begins_by at ruling ≡ true → begins_by last ruling ≡ true
begun_later at last early (TariffSeen day text) begun = grind (arith, ints)
begun_later at last early other begun = absurd (true≢false (sym begun))

-- where none has, all are in force from the day on
none_begun : (at : ℤ) (list : List RulingSeen) → list_any (begins_by at) list ≡ false
    → in_force_from at list ≡ list
none_begun at [] none = refl
none_begun at (ruling ∷ list) none =
    ap (λ b. if b then in_force_from at list else ruling ∷ list)
    (no_others (begins_by at ruling) (list_any (begins_by at) list) none)
  where
    no_others : (a b : Bool) → (a || b) ≡ false → b ≡ false
    no_others true b none = absurd (true≢false none)
    no_others false b none = none

-- whether some have hangs on those alone that have on a later day
any_begun : (at last : ℤ) → int_lt last at ≡ false → (list : List RulingSeen)
    → list_any (begins_by at) (filter (begins_by last) list) ≡ list_any (begins_by at) list
any_begun at last early [] = refl
any_begun at last early (ruling ∷ list) =
    let rest = any_begun at last early list in
    let kept : List RulingSeen = filter (begins_by last) list in
    elim (begins_by last ruling) as (λ b. begins_by last ruling ≡ b
    → list_any (begins_by at) (cond b (ruling ∷ kept) kept)
    ≡ (begins_by at ruling || list_any (begins_by at) list)) [
      | true ↦ λ begun. ap (λ b. begins_by at ruling || b) rest
      | false ↦ λ late.
          let not_yet : begins_by at ruling ≡ false =
          false_from_ne_true (begins_by at ruling) (λ begun.
          true≢false (sym (begun_later at last early ruling begun) ∙ late)) in
          rest ∙ ap (λ b. b || list_any (begins_by at) list) (sym not_yet)
    ] refl

-- and so does what is in force from the day on
force_of_begun : (at last : ℤ) → int_lt last at ≡ false → (list : List RulingSeen)
    → filter (begins_by last) (in_force_from at list)
    ≡ in_force_from at (filter (begins_by last) list)
force_of_begun at last early [] = refl
force_of_begun at last early (ruling ∷ list) =
    let kept : List RulingSeen = filter (begins_by last) list in
    let any = any_begun at last early list in
    elim (list_any (begins_by at) list) as (λ some. list_any (begins_by at) list ≡ some
    → filter (begins_by last) (if some then in_force_from at list else ruling ∷ list)
    ≡ in_force_from at (cond (begins_by last ruling) (ruling ∷ kept) kept)) [
      | true ↦ λ some.
          force_of_begun at last early list
          ∙ elim (begins_by last ruling) as (λ b.
          in_force_from at kept ≡ in_force_from at (cond b (ruling ∷ kept) kept)) [
            | true ↦ sym (ap (λ b. if b then in_force_from at kept else ruling ∷ kept) (any ∙ some))
            | false ↦ refl
          ]
      | false ↦ λ none.
          elim (begins_by last ruling) as (λ b.
          cond b (ruling ∷ kept) kept ≡ in_force_from at (cond b (ruling ∷ kept) kept)) [
            | true ↦ sym (ap (λ b. if b then in_force_from at kept else ruling ∷ kept) (any ∙ none))
            | false ↦ sym (none_begun at kept (any ∙ none))
          ]
    ] refl

-- a tariff that begins later is none of those that have begun
late_seen : (last : ℤ) (tariff : AcceptedTerms) → int_lt last tariff.terms.effective ≡ true
    → (list : List RulingSeen)
    → filter (begins_by last) (cons_option (tariff_seen tariff) list)
    ≡ filter (begins_by last) list
late_seen last tariff late list =
    let day : ℤ = tariff.terms.effective in
    let kept : List RulingSeen = filter (begins_by last) list in
    elim tariff.text as (λ text.
    filter (begins_by last) (cons_option (option_map (TariffSeen day) text) list) ≡ kept) [
      | None ↦ refl
      | Some own ↦ ap (λ b. cond (not b) (TariffSeen day own ∷ kept) kept) late
    ]

-- so these stay where it takes the place of another
same_begun : (last : ℤ) (new : AcceptedTerms) → int_lt last new.terms.effective ≡ true
    → (tariffs : List AcceptedTerms)
    → filter (begins_by last) (tariffs_seen (map (or_new new) tariffs))
    ≡ filter (begins_by last) (tariffs_seen tariffs)
same_begun last new late [] = refl
same_begun last new late (tariff ∷ tariffs) =
    let rest = same_begun last new late tariffs in
    let now : List RulingSeen = tariffs_seen (map (or_new new) tariffs) in
    let was : List RulingSeen = tariffs_seen tariffs in
    elim (is_effective new.terms.effective tariff) as (λ b.
    is_effective new.terms.effective tariff ≡ b
    → filter (begins_by last) (cons_option (tariff_seen (cond b new tariff)) now)
    ≡ filter (begins_by last) (cons_option (tariff_seen tariff) was)) [
      | true ↦ λ same.
          let at = (Decides-int_eq new.terms.effective tariff.terms.effective).0 same in
          late_seen last new late now
          ∙ rest
          ∙ sym (late_seen last tariff (ap (int_lt last) (sym at) ∙ late) was)
      | false ↦ λ other.
          elim (tariff_seen tariff) as (λ seen.
          filter (begins_by last) (cons_option seen now)
          ≡ filter (begins_by last) (cons_option seen was)) [
            | None ↦ rest
            | Some ruling ↦ λ i. cond (begins_by last ruling) (ruling ∷ rest i) (rest i)
          ]
    ] refl

-- the day after a close is not after the next one
not_after : (close last : ℤ) → close <ℤ last → int_lt last (close +ℤ pos 1) ≡ false
not_after close last before = grind (arith, ints)

-- so the tariffs of a period hang on those alone that have begun on its last day
begun_first : (closes : List ℤ) (k : ℕ) (last : ℤ) → IsStrictlySortedBy int_cmp closes
    → slice_get closes k ≡ Some last → (one other : List RulingSeen)
    → filter (begins_by last) one ≡ filter (begins_by last) other
    → filter (begins_by last) (tariffs_from (option_map day_after (close_at closes k)) one)
    ≡ filter (begins_by last) (tariffs_from (option_map day_after (close_at closes k)) other)
begun_first closes zero last rising there one other same = same
begun_first closes (suc k) last rising there one other same =
    let within = slice_get_within closes (suc k) last there in
    let close : ℤ = get_or closes k (pos 0) in
    let at : slice_get closes k ≡ Some close = slice_get-get_or closes k (pos 0) (omega arith) in
    let before = rise_at closes k (suc k) close last rising (omega arith) at there in
    let early = not_after close last before in
    ap (λ close. filter (begins_by last) (tariffs_from (option_map day_after close) one)) at
    ∙ force_of_begun (day_after close) last early one
    ∙ ap (in_force_from (day_after close)) same
    ∙ sym (force_of_begun (day_after close) last early other)
    ∙ sym (ap (λ close. filter (begins_by last) (tariffs_from (option_map day_after close) other))
    at)

replaced_leaves : (closes : List ℤ) (tariffs : List AcceptedTerms) (text : List ℕ) (terms : Terms)
    (k : ℕ) → IsStrictlySortedBy int_cmp closes → k < length closes
    → MatchOption (last_or None closes) (Unit {0}) (λ close. close <ℤ terms.effective)
    → tariffs_at k closes (map (or_new (record { text = Some text; terms = terms })) tariffs)
    ≡ tariffs_at k closes tariffs
replaced_leaves closes tariffs text terms k rising within later =
    let new : AcceptedTerms = record { text = Some text; terms = terms } in
    let last : ℤ = get_or closes k (pos 0) in
    let there : slice_get closes k ≡ Some last = slice_get-get_or closes k (pos 0) within in
    let after = after_each closes k last terms.effective rising there later in
    let now : List RulingSeen = tariffs_seen (map (or_new new) tariffs) in
    let was : List RulingSeen = tariffs_seen tariffs in
    ap (λ through. tariffs_through through
    (tariffs_from (option_map day_after (close_at closes k)) now)) there
    ∙ begun_first closes k last rising there now was
    (same_begun last new (is_under last terms.effective after) tariffs)
    ∙ sym (ap (λ through. tariffs_through through
    (tariffs_from (option_map day_after (close_at closes k)) was)) there)

-- and those that begin by its last day
replaced_comes_late : (closes : List ℤ) (tariffs : List AcceptedTerms) (text : List ℕ)
    (terms : Terms) (k : ℕ) → IsStrictlySortedBy int_cmp closes → k < length closes
    → MatchOption (last_or None closes) (Unit {0}) (λ close. close <ℤ terms.effective)
    → begun_at k closes (map (or_new (record { text = Some text; terms = terms })) tariffs)
    ≡ begun_at k closes tariffs
replaced_comes_late closes tariffs text terms k rising within later =
    let new : AcceptedTerms = record { text = Some text; terms = terms } in
    let last : ℤ = get_or closes k (pos 0) in
    let there : slice_get closes k ≡ Some last = slice_get-get_or closes k (pos 0) within in
    let after = after_each closes k last terms.effective rising there later in
    let now : List RulingSeen = tariffs_seen (map (or_new new) tariffs) in
    let was : List RulingSeen = tariffs_seen tariffs in
    ap (λ through. tariffs_through through now) there
    ∙ same_begun last new (is_under last terms.effective after) tariffs
    ∙ sym (ap (λ through. tariffs_through through was) there)

-- a day after the last close, if there was one
pub later_than : (last : Option ℤ) (day : ℤ) → is_after last day ≡ true
    → MatchOption last (Unit {0}) (λ close. close <ℤ day)
later_than None day is = tt
later_than (Some close) day is = grind (arith, ints)

-- So the tariffs of a closed period stay, those that begin by its last day, and the close before it,
-- whatever calls follow.
pub record KeepsTariffs (k : ℕ) (old new : Book) : Type 0 where
  pub within : k < length new.rulings.closes
  pub same : tariffs_at k new.rulings.closes new.rulings.tariffs
      ≡ tariffs_at k old.rulings.closes old.rulings.tariffs
  pub begun : begun_at k new.rulings.closes new.rulings.tariffs
      ≡ begun_at k old.rulings.closes old.rulings.tariffs
  pub before : close_at new.rulings.closes k ≡ close_at old.rulings.closes k

pub keeps_tariffs : (naming : Naming) (later : List Event) (start : Book) (k : ℕ)
    → IsStrictlySortedBy int_cmp start.rulings.closes → AreMadeOf naming start later
    → k < length start.rulings.closes → KeepsTariffs k start (after_all later start)
keeps_tariffs naming [] start k rising made within =
    record { within = within; same = refl; begun = refl; before = refl }
keeps_tariffs naming (PeriodClosed said day ∷ later) start k rising made within =
    let before = keeps_tariffs naming later start k rising made.1 within in
    let book : Book = after_all later start in
    let more = length-append book.rulings.closes (day ∷ []) in
    let still = before.within in record {
      within = omega arith;
      same = close_leaves book.rulings.closes book.rulings.tariffs day k before.within
          ∙ before.same;
      begun =
          ap (λ through. tariffs_through through (tariffs_seen book.rulings.tariffs))
          (slice_get-front book.rulings.closes day k before.within)
          ∙ before.begun;
      before = before_stays book.rulings.closes day k before.within ∙ before.before;
    }
keeps_tariffs naming (RulingGiven said (TariffAccepted (Some text) terms) ∷ later) start k rising made
    within =
    let before = keeps_tariffs naming later start k rising made.1 within in
    let book : Book = after_all later start in
    let rise = rise_later naming later start rising made.1 in
    let forward = calls_go_forward.tariff book text terms made.0 in record {
      within = before.within;
      same =
          tariff_leaves book.rulings.closes book.rulings.tariffs text terms k rise before.within
          forward
          ∙ before.same;
      begun =
          tariff_comes_late book.rulings.closes book.rulings.tariffs text terms k rise
          before.within forward
          ∙ before.begun;
      before = before.before;
    }
keeps_tariffs naming (RulingGiven said (TariffAccepted None terms) ∷ later) start k rising made within =
    let before = keeps_tariffs naming later start k rising made.1 within in
    let never = subst (λ (book : Book). k < length book.rulings.closes) made.0 before.within in
    absurd (omega arith)
keeps_tariffs naming (RulingGiven said (TariffReplaced text terms) ∷ later) start k rising made within =
    let before = keeps_tariffs naming later start k rising made.1 within in
    let book : Book = after_all later start in
    let rise = rise_later naming later start rising made.1 in
    let forward = later_than (last_close book.rulings) terms.effective
    (replace_passes book text terms made.0).later in record {
      within = before.within;
      same =
          replaced_leaves book.rulings.closes book.rulings.tariffs text terms k rise before.within
          forward
          ∙ before.same;
      begun =
          replaced_comes_late book.rulings.closes book.rulings.tariffs text terms k rise
          before.within forward
          ∙ before.begun;
      before = before.before;
    }
keeps_tariffs naming (event ∷ later) start k rising made within =
    let before = keeps_tariffs naming later start k rising made.1 within in
    record {
      within = before.within;
      same = before.same;
      begun = before.begun;
      before = before.before;
    }

pub tariffs_stay : (naming : Naming) (later : List Event) (old : Book) (k : ℕ)
    → IsStrictlySortedBy int_cmp old.rulings.closes → AreMadeOf naming old later
    → k < length old.rulings.closes
    → tariffs_in (suc k) (after_all later old).rulings ≡ tariffs_in (suc k) old.rulings
tariffs_stay naming later old k rising made within =
    tariffs_are k (after_all later old).rulings
    ∙ (keeps_tariffs naming later old k rising made within).same
    ∙ sym (tariffs_are k old.rulings)

pub begun_stay : (naming : Naming) (later : List Event) (old : Book) (k : ℕ)
    → IsStrictlySortedBy int_cmp old.rulings.closes → AreMadeOf naming old later
    → k < length old.rulings.closes
    → begun_in (suc k) (after_all later old).rulings ≡ begun_in (suc k) old.rulings
begun_stay naming later old k rising made within =
    begun_are k (after_all later old).rulings
    ∙ (keeps_tariffs naming later old k rising made within).begun
    ∙ sym (begun_are k old.rulings)

pub before_same : (naming : Naming) (later : List Event) (old : Book) (k : ℕ)
    → IsStrictlySortedBy int_cmp old.rulings.closes → AreMadeOf naming old later
    → k < length old.rulings.closes
    → through_of (suc k - 1) (after_all later old).rulings ≡ through_of (suc k - 1) old.rulings
before_same naming later old k rising made within =
    before_is k (after_all later old).rulings
    ∙ (keeps_tariffs naming later old k rising made within).before
    ∙ sym (before_is k old.rulings)
