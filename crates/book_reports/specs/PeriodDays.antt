-- The closes between which a period lies, as a ledger answers them by a call that is no event.
use Rattle.std.specs.Prelude.{ℕ, ℤ, ◌-◌, List, Ok}
use Rattle.book_model.specs.Words.{Book, Outcome, close_of, no_event}
use Rattle.book_reports.specs.declared.period_days.PeriodDays.{PeriodDays}

-- by the days of all closes, that of the period before, and the period's own
abbrev pub days_by : ℕ → List ℤ → PeriodDays
days_by number closes = record {
  before = close_of (number - 1) closes;
  through = close_of number closes;
}

abbrev pub days_outcome : ℕ → Book → Outcome PeriodDays
days_outcome number book = no_event (Ok (days_by number book.rulings.closes))
