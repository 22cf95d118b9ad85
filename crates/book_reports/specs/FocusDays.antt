-- The days of a period, as a table of cost and usage shows them: neither of them is ever left out.
use Rattle.std.specs.Prelude.{ℕ, ℤ, pos, ◌-◌, ◌+ℤ◌, int_lt, if◌then◌else◌, List, length, slice_get}
use Rattle.std.specs.Prelude.{Option, Some, None}
use Rattle.smf_text.specs.Day.{first_day, last_day}
use Rattle.book_model.specs.declared.bill.BilledTariff.{BilledTariff}
use Rattle.book_model.specs.declared.row.ChargeRow.{ChargeRow}
use Rattle.book_model.specs.Words.{close_of}
use Rattle.book_reports.specs.declared.focus_days.FocusDays.{FocusDays}

-- The first day of a tariff. Without one nothing is charged, and it is the first day known.
unfoldable pub first_by : Option BilledTariff → ℤ
first_by (Some tariff) = tariff.day
first_by None = first_day

-- The day that a period begins on: the one after the close before it or, where there is none, the
-- first of its first tariff.
unfoldable pub begins_on : Option ℤ → Option BilledTariff → ℤ
begins_on (Some close) first = close +ℤ pos 1
begins_on None first = first_by first

-- a day, where it is no later than the last day known, or else that one
unfoldable pub known_day : ℤ → ℤ
known_day day = if int_lt last_day day then last_day else day

-- The last day of a period: that of its close; while it is open that of its newest row; without a
-- row the day that it begins on.
unfoldable pub last_on : Option ℤ → Option ChargeRow → ℤ → ℤ
last_on (Some day) newest begins = day
last_on None (Some row) begins = row.day
last_on None None begins = known_day begins

-- both, of a period of this number, by the days of all closes, its tariffs, and its rows in the
-- order of their days
abbrev pub focus_days : ℕ → List ℤ → List BilledTariff → List ChargeRow → FocusDays
focus_days number closes tariffs rows =
    let begins = begins_on (close_of (number - 1) closes) (slice_get tariffs 0) in
    record {
      begins = begins;
      last = last_on (close_of number closes) (slice_get rows (length rows - 1)) begins;
    }
