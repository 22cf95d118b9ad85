-- Days, counted from 1970-01-01 in the Gregorian calendar. The calendar is the kit's: the days of
-- years and of months before a date, where every fourth year is a leap year, but of the centuries
-- only every fourth.
use Rattle.std.specs.Prelude.{ℕ, zero, suc, ◌+◌, ◌-◌, ◌*◌, ◌&&◌, if◌then◌else◌, Bool, List, ◌++◌, codes, slice_index, bytes_eq, Option, None, Some, ℤ, pos, neg_ℤ, ◌+ℤ◌}
use Rattle.std.specs.Int.{int_gap}
use Rattle.std.specs.Int.Signed.{le_z}
use Rattle.jiff_core.specs.Calendar.{IsBetween, days_from_civil, weekday_number}
use Rattle.jiff_fmt.specs.Text.{pad2, pad4}

-- the first year that this product knows, and the last (the office's rule)
abbrev pub first_year : ℕ
first_year = 1900

abbrev pub last_year : ℕ
last_year = 2099

-- the first day that it knows, 1900-01-01, and the last, 2099-12-31
abbrev pub first_day : ℤ
first_day = neg_ℤ (pos 25_567)

abbrev pub last_day : ℤ
last_day = pos 47_481

-- a day from 1900-01-01 to 2099-12-31
abbrev pub IsDay : ℤ → Type 0
IsDay day = IsBetween first_day last_day day

-- the same, as a test
abbrev pub is_day : ℤ → Bool
is_day day = le_z first_day day && le_z day last_day

-- the day of a year, a month and a day of the month
abbrev pub day_of_date : ℕ → ℕ → ℕ → ℤ
day_of_date year month day = days_from_civil (pos year) month day

-- the nth day of a year, from 1
abbrev pub nth_day_of : ℕ → ℕ → ℤ
nth_day_of year n = day_of_date year 1 1 +ℤ pos (n - 1)

-- the day of the week, from 1 for Monday to 7 for Sunday (day 0 was a Thursday)
unfoldable pub weekday_of : ℤ → ℕ
weekday_of day = weekday_number day + 1

-- the last that has begun by a day, of a first year or month and a number of others after it
unfoldable pub last_begun : (ℕ → ℤ) → ℕ → ℕ → ℤ → ℕ
last_begun begins first zero day = first
last_begun begins first (suc more) day =
    if le_z (begins (first + suc more)) day then first + suc more
    else last_begun begins first more day

-- a date as people write it
pub record CalendarDate : Type 0 where
  pub year : ℕ
  pub month : ℕ
  pub day : ℕ

-- the date of a day: the last year that has begun, its last month that has begun, and the days
-- since that month began, from 1
unfoldable pub date_of : ℤ → CalendarDate
date_of day =
    let year = last_begun (λ year. day_of_date year 1 1) first_year (last_year - first_year) day in
    let month = last_begun (λ month. day_of_date year month 1) 1 11 day in
    record { year = year; month = month; day = int_gap (day_of_date year month 1) day + 1 }

-- a date as `YYYY-MM-DD`
abbrev pub date_text : CalendarDate → List ℕ
date_text date = pad4 date.year ++ codes "-" ++ pad2 date.month ++ codes "-" ++ pad2 date.day

-- a day as `YYYY-MM-DD`
unfoldable pub day_text_of : ℤ → List ℕ
day_text_of day = date_text (date_of day)

-- the number that the two decimal digits at an offset spell (in ASCII the digit 0 is 48)
abbrev pub two_digits_at : List ℕ → ℕ → ℕ
two_digits_at text i = 10 * (slice_index text i - 48) + (slice_index text (i + 1) - 48)

-- the day that the digits of a text `YYYY-MM-DD` spell
unfoldable pub day_spelled_by : List ℕ → ℤ
day_spelled_by text =
    let year = 100 * two_digits_at text 0 + two_digits_at text 2 in
    day_of_date year (two_digits_at text 5) (two_digits_at text 8)

-- the day from 1900-01-01 to 2099-12-31 with this text: the one that its digits spell, if the
-- text is that day's
unfoldable pub day_of_text_of : List ℕ → Option ℤ
day_of_text_of text =
    let day = day_spelled_by text in
    if is_day day && bytes_eq (day_text_of day) text then Some day else None
