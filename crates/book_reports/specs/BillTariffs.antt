-- The tariffs of a bill: those of the days of a period, as they are kept of all tariffs, which are read
-- one after another.
use Rattle.std.specs.Prelude.{◌≡◌, ◌+ℤ◌, ℕ, ℤ, pos, int_lt, not, Bool, false, if◌then◌else◌, All}
use Rattle.std.specs.Prelude.{List, [], Option, Ok, filter_map, flat_map, fold, option_map}
use Rattle.std.specs.BTreeSet.{insert_key}
use Rattle.book_model.specs.Std.{option_map_or}
use Rattle.tariff_rules.specs.Terms.{ShiftRule}
use Rattle.tariff_rules.specs.declared.shift.Shift.{Shift}
use Rattle.book_model.specs.declared.bill.BilledShift.{BilledShift}
use Rattle.book_model.specs.declared.bill.BilledTariff.{BilledTariff}
use Rattle.book_model.specs.Words.{Book, IsDay, LetterheadSeen, Outcome, RulingSeen, billed_tariff}
use Rattle.book_model.specs.Words.{billed_shifts, by_shift, letterhead_among, letterhead_shown}
use Rattle.book_model.specs.Words.{no_event, tariffs_from}
use Rattle.book_model.specs.Words.{tariffs_in, tariffs_seen, tariffs_through}
use Rattle.book_reports.specs.declared.bill_tariffs.KeptTariffs.{KeptTariffs}
use Rattle.book_reports.specs.declared.period_days.PeriodDays.{PeriodDays}

abbrev pub Tariffs : Type 0
Tariffs = List RulingSeen

-- a tariff of this day has begun by the first day after a close, where there was one: then none before
-- it is in force from there on
abbrev pub has_begun_after : Option ℤ → ℤ → Bool
has_begun_after before day =
    option_map_or (λ close. not (int_lt (close +ℤ pos 1) day)) before false

-- of the tariffs that were kept, those that stay where a tariff of this day comes
abbrev pub left_by : Option ℤ → ℤ → List RulingSeen → List RulingSeen
left_by before day kept = if has_begun_after before day then [] else kept

-- of some tariffs those in force on some of the days
abbrev pub kept_of : PeriodDays → List RulingSeen → List RulingSeen
kept_of days tariffs =
    tariffs_through days.through
    (tariffs_from (option_map (λ close. close +ℤ pos 1) days.before) tariffs)

-- shifts by name, which those of some rules join
abbrev pub with_shifts : List Shift → List ShiftRule → List Shift
with_shifts shifts rules = fold (λ all rule. insert_key by_shift all rule.shift) shifts rules

-- these tariffs were kept, by their rates, with their shifts, and the letterhead of the last of them
pub record HasKept (kept : KeptTariffs) (read : List RulingSeen) : Type 0 where
  pub tariffs : kept.tariffs.items ≡ filter_map billed_tariff read
  pub shifts : kept.shifts.items ≡ flat_map billed_shifts read
  pub letterhead : letterhead_shown kept.letterhead ≡ letterhead_among read
  pub days : All (λ tariff. IsDay tariff.day) kept.tariffs.items
  pub shift_days : All (λ shift. IsDay shift.day) kept.shifts.items

-- tariffs by their rates, their shifts, and a letterhead
pub record TariffsBilled : Type 0 where
  pub tariffs : List BilledTariff
  pub shifts : List BilledShift
  pub letterhead : LetterheadSeen

-- those that were kept
abbrev pub tariffs_shown : KeptTariffs → TariffsBilled
tariffs_shown kept = record {
  tariffs = kept.tariffs.items;
  shifts = kept.shifts.items;
  letterhead = letterhead_shown kept.letterhead;
}

-- those of the list
abbrev pub tariffs_billed : List RulingSeen → TariffsBilled
tariffs_billed tariffs = record {
  tariffs = filter_map billed_tariff tariffs;
  shifts = flat_map billed_shifts tariffs;
  letterhead = letterhead_among tariffs;
}

-- what a book answers, by the days of a period
abbrev pub tariffs_on_outcome : PeriodDays → Book → Outcome TariffsBilled
tariffs_on_outcome days book =
    no_event (Ok (tariffs_billed (kept_of days (tariffs_seen book.rulings.tariffs))))

-- and by its number
abbrev pub tariffs_outcome : ℕ → Book → Outcome TariffsBilled
tariffs_outcome number book = no_event (Ok (tariffs_billed (tariffs_in number book.rulings)))
