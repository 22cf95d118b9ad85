-- The tariffs in force on the days of a period, which are kept of all tariffs as they are read.
use Rattle.std.proofs.Common.{◌≡◌, ◌∙◌, ◌||◌, ℤ, Bool, true, false, cond, List, [], ◌∷◌, ◌++◌, not}
use Rattle.std.proofs.Common.{append-nil, append_assoc, flat_map, refl, sym, ap, subst, true≢false}
use Rattle.std.proofs.Common.{Option, Some, None, ℕ}
use Rattle.std.proofs.Common.{Result, Ok, Err, ◌+ℤ◌, All, IfOk, if◌then◌else◌, int_lt, option_map}
use Rattle.std.proofs.Common.{pos}
use Rattle.book_model.proofs.Std.{cons_option, list_any, option_map_or, result_ok, All-append}
use Rattle.book_model.proofs.Std.{All-map, All-nil, All-push}
use Rattle.book_model.proofs.Std.{filter-append, filter_map-append, list_any-append}
use Rattle.book_model.specs.Words.{IsDay, RulingSeen, TariffSeen, Terms, begins_by, billed_shifts}
use Rattle.book_model.specs.Words.{billed_shift, billed_tariff, shifts_by, shifts_of}
use Rattle.book_model.specs.declared.bill.BilledShift.{BilledShift}
use Rattle.book_model.specs.Words.{in_force_from, letterhead_by, letterhead_in, letterhead_shown}
use Rattle.book_model.specs.Words.{no_letterhead, tariff_by, tariffs_from, tariffs_through}
use Rattle.book_model.specs.Words.{terms_in}
use Rattle.book_core.proofs.LastCharges.{last_push}
use Rattle.book_reports.specs.declared.bill_tariffs.KeptTariffs.{KeptTariffs}
use Rattle.book_reports.specs.declared.period_days.PeriodDays.{PeriodDays}
use Rattle.book_reports.proofs.Words.{BilledTariff, LedgerFault, HasKept, kept_of, left_by}
use Rattle.book_reports.proofs.Words.{tariffs_billed, tariffs_shown}
use Rattle.book_reports.specs.BillTariffs.{has_begun_after}

-- ---- one more tariff

-- one that has begun by a day is the one in force on it; else those before it stay
pub in_force_push : (day : ℤ) (tariffs : List RulingSeen) (last : RulingSeen)
    → in_force_from day (tariffs ++ last ∷ [])
    ≡ (if begins_by day last then [] else in_force_from day tariffs) ++ last ∷ []
in_force_push day [] last = by (begins_by day last)
  where
    by : (b : Bool) → last ∷ [] ≡ (if b then [] else []) ++ last ∷ []
    by true = refl
    by false = refl
in_force_push day (tariff ∷ later) last =
    ap (λ any. if any then in_force_from day (later ++ last ∷ []) else tariff ∷ (later ++ last ∷ []))
    (list_any-append (begins_by day) later (last ∷ []))
    ∙ ap (λ more. if list_any (begins_by day) later || (begins_by day last || false) then more
    else tariff ∷ (later ++ last ∷ []))
    (in_force_push day later last)
    ∙ by (list_any (begins_by day) later) (begins_by day last)
  where
    by : (a b : Bool)
        → (if a || (b || false) then (if b then [] else in_force_from day later) ++ last ∷ []
        else tariff ∷ (later ++ last ∷ []))
        ≡ (if b then [] else (if a then in_force_from day later else tariff ∷ later)) ++ last ∷ []
    by true true = refl
    by true false = refl
    by false true = refl
    by false false = refl

from_push : (before : Option ℤ) (tariffs : List RulingSeen) (day : ℤ) (text : List ℕ)
    → tariffs_from (option_map (λ close. close +ℤ pos 1) before) (tariffs ++ TariffSeen day text ∷ [])
    ≡ left_by before day (tariffs_from (option_map (λ close. close +ℤ pos 1) before) tariffs)
    ++ TariffSeen day text ∷ []
from_push None tariffs day text = refl
from_push (Some close) tariffs day text =
    in_force_push (close +ℤ pos 1) tariffs (TariffSeen day text)

pub through_append : (through : Option ℤ) (some others : List RulingSeen)
    → tariffs_through through (some ++ others)
    ≡ tariffs_through through some ++ tariffs_through through others
through_append None some others = refl
through_append (Some day) some others = filter-append (begins_by day) some others

through_left : (through before : Option ℤ) (day : ℤ) (tariffs : List RulingSeen)
    → tariffs_through through (left_by before day tariffs)
    ≡ left_by before day (tariffs_through through tariffs)
through_left through before day tariffs = by through (has_begun_after before day)
  where
    by : (through : Option ℤ) (b : Bool)
        → tariffs_through through (if b then [] else tariffs)
        ≡ if b then [] else tariffs_through through tariffs
    by None true = refl
    by None false = refl
    by (Some last) true = refl
    by (Some last) false = refl

-- so these are kept with one more
pub kept_more : (days : PeriodDays) (tariffs : List RulingSeen) (day : ℤ) (text : List ℕ)
    → kept_of days (tariffs ++ TariffSeen day text ∷ [])
    ≡ left_by days.before day (kept_of days tariffs)
    ++ tariffs_through days.through (TariffSeen day text ∷ [])
kept_more days tariffs day text =
    let from = tariffs_from (option_map (λ close. close +ℤ pos 1) days.before) tariffs in
    let one = tariffs_through days.through (TariffSeen day text ∷ []) in
    ap (tariffs_through days.through) (from_push days.before tariffs day text)
    ∙ through_append days.through (left_by days.before day from) (TariffSeen day text ∷ [])
    ∙ ap (λ left. left ++ one) (through_left days.through days.before day from)

-- one that begins after the last day is not kept
pub through_none : (through : Option ℤ) (day : ℤ) (text : List ℕ)
    → option_map_or (λ last. not (int_lt last day)) through true ≡ false
    → tariffs_through through (TariffSeen day text ∷ []) ≡ []
through_none None day text after = absurd (true≢false after)
through_none (Some last) day text after =
    ap (λ begun. cond begun (TariffSeen day text ∷ []) []) after

-- any other is
pub through_one : (through : Option ℤ) (day : ℤ) (text : List ℕ)
    → option_map_or (λ last. not (int_lt last day)) through true ≡ true
    → tariffs_through through (TariffSeen day text ∷ []) ≡ TariffSeen day text ∷ []
through_one None day text begun = refl
through_one (Some last) day text begun =
    ap (λ begun. cond begun (TariffSeen day text ∷ []) []) begun

-- ---- what is kept of them

-- a tariff by its rates has the day of the tariff
days_push : (tariffs : List BilledTariff) (day : ℤ) (terms : Option Terms)
    → All (λ (tariff : BilledTariff). IsDay tariff.day) tariffs → IsDay day
    → All (λ (tariff : BilledTariff). IsDay tariff.day)
    (tariffs ++ cons_option (option_map (tariff_by day) terms) [])
days_push tariffs day None are is =
    subst (All (λ (tariff : BilledTariff). IsDay tariff.day)) (sym (append-nil tariffs)) are
days_push tariffs day (Some terms) are is =
    All-push (λ (tariff : BilledTariff). IsDay tariff.day) tariffs (tariff_by day terms) are is

-- shifts of one more come last
shifts_push : (read : List RulingSeen) (last : RulingSeen)
    → flat_map billed_shifts (read ++ last ∷ [])
    ≡ flat_map billed_shifts read ++ billed_shifts last
shifts_push [] last = append-nil (billed_shifts last)
shifts_push (first ∷ read) last =
    ap (λ rest. billed_shifts first ++ rest) (shifts_push read last)
    ∙ sym (append_assoc (billed_shifts first) (flat_map billed_shifts read) (billed_shifts last))

-- those of a tariff have its day
shifts_dated : (day : ℤ) (terms : Option Terms) → IsDay day
    → All (λ (shift : BilledShift). IsDay shift.day) (option_map_or (shifts_by day) terms [])
shifts_dated day None is = All-nil (λ (shift : BilledShift). IsDay shift.day)
shifts_dated day (Some terms) is =
    All-map (λ (shift : BilledShift). IsDay shift.day) (billed_shift day) (shifts_of terms)
    (λ k d within. is)

pub kept_push : {kept more : KeptTariffs} {read : List RulingSeen} (day : ℤ) (text : List ℕ)
    → IsDay day
    → more.tariffs.items
    ≡ kept.tariffs.items ++ cons_option (billed_tariff (TariffSeen day text)) []
    → more.shifts.items ≡ kept.shifts.items ++ billed_shifts (TariffSeen day text)
    → letterhead_shown more.letterhead ≡ letterhead_in text → HasKept kept read
    → HasKept more (read ++ TariffSeen day text ∷ [])
kept_push {kept} {more} {read} day text is_day joined also head are = record {
  tariffs = joined
      ∙ ap (λ front. front ++ cons_option (billed_tariff (TariffSeen day text)) []) are.tariffs
      ∙ sym (filter_map-append billed_tariff read (TariffSeen day text ∷ []));
  shifts = also ∙ ap (λ front. front ++ billed_shifts (TariffSeen day text)) are.shifts
      ∙ sym (shifts_push read (TariffSeen day text));
  letterhead = head
      ∙ sym (ap (λ last. option_map_or letterhead_by last no_letterhead)
      (last_push None read (TariffSeen day text)));
  days = subst (All (λ (tariff : BilledTariff). IsDay tariff.day)) (sym joined)
      (days_push kept.tariffs.items day (result_ok (terms_in text)) are.days is_day);
  shift_days = subst (All (λ (shift : BilledShift). IsDay shift.day)) (sym also)
      (All-append (λ (shift : BilledShift). IsDay shift.day) kept.shifts.items
      (billed_shifts (TariffSeen day text)) are.shift_days
      (shifts_dated day (result_ok (terms_in text)) is_day));
}

-- what was kept is what is shown
pub kept_shown : {kept : KeptTariffs} {read : List RulingSeen} → HasKept kept read
    → tariffs_billed read ≡ tariffs_shown kept
kept_shown are = λ i. record {
  tariffs = sym are.tariffs i;
  shifts = sym are.shifts i;
  letterhead = sym are.letterhead i;
}

-- of none these are none
pub kept_none : (days : PeriodDays) → [] ≡ kept_of days []
kept_none days = by days.before days.through
  where
    by : (before through : Option ℤ)
        → [] ≡ tariffs_through through (tariffs_from (option_map (λ close. close +ℤ pos 1) before) [])
    by None None = refl
    by None (Some through) = refl
    by (Some close) None = refl
    by (Some close) (Some through) = refl

-- tariffs that were kept have days
pub kept_dated : (result : Result KeptTariffs LedgerFault) (read : List RulingSeen)
    → IfOk result (λ kept. HasKept kept read)
    → IfOk result (λ kept. All (λ (tariff : BilledTariff). IsDay tariff.day) kept.tariffs.items)
kept_dated (Ok kept) read has = has.days
kept_dated (Err fault) read has = tt

-- and so have their shifts
pub shifts_kept_dated : (result : Result KeptTariffs LedgerFault) (read : List RulingSeen)
    → IfOk result (λ kept. HasKept kept read)
    → IfOk result (λ kept. All (λ (shift : BilledShift). IsDay shift.day) kept.shifts.items)
shifts_kept_dated (Ok kept) read has = has.shift_days
shifts_kept_dated (Err fault) read has = tt
