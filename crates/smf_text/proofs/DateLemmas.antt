-- The last year and the last month that have begun give the date of a day.
use Rattle.std.proofs.Common.{◌≡◌, ℕ, zero, suc, ◌+◌, ◌<◌, ◌≤◌, Bool, true, false, if◌then◌else◌, refl, sym, ◌∙◌, arith, ℤ, pos, negsuc, ◌+ℤ◌, ◌≤ℤ◌, ◌<ℤ◌}
use Rattle.std.specs.Int.{int_gap}
use Rattle.std.specs.Int.Signed.{le_z}
use Rattle.jiff_core.specs.declared.civil.date.Date.{Date}
use Rattle.jiff_core.specs.Calendar.{IsYear, IsCivilDate, days_in_month, days_in_year}
use Rattle.jiff_core.specs.Date.{epoch_day}
use Rattle.jiff_core.proofs.SignedLemmas.{signed_arith}
use Rattle.jiff_core.proofs.DateLemmas.{epoch_day_injective, days_from_civil-day}
use Rattle.jiff_core.proofs.CalendarLemmas.{day_count-day, day_count-next_month, day_count-next_year, day_count-last_of_year, days_from_civil-day_count}
use Rattle.jiff_fmt.specs.Text as jiff
use Rattle.smf_text.specs.Day.{CalendarDate, IsDay, day_of_date, last_begun, date_of, day_text_of}
use Rattle.smf_text.proofs.YearLemmas.{first_day_is, next_century}

-- this one has begun by the day, and the one after it has not
pub record IsLastBegun (begins : ℕ → ℤ) (first last : ℕ) (day : ℤ) (n : ℕ) : Type 0 where
  pub early : first ≤ n
  pub late : n ≤ last
  pub begun : begins n ≤ℤ day
  pub not_next : day <ℤ begins (n + 1)

-- the last that has begun is found, where the first has begun and the one after all has not
last_begun_found : (begins : ℕ → ℤ) (first more : ℕ) (day : ℤ) → begins first ≤ℤ day
    → day <ℤ begins (first + more + 1)
    → IsLastBegun begins first (first + more) day (last_begun begins first more day)
unfolding last_begun
last_begun_found begins first zero day begun not_next = record {
  early = omega arith;
  late = omega arith;
  begun = begun;
  not_next = let same : first + 0 + 1 ≡ first + 1 = omega arith in rw same at not_next;
}
last_begun_found begins first (suc more) day begun not_next =
    let earlier = last_begun_found begins first more day begun in
    go (le_z (begins (first + suc more)) day) refl earlier where
      go : (b : Bool) → le_z (begins (first + suc more)) day ≡ b
          → (day <ℤ begins (first + more + 1)
          → IsLastBegun begins first (first + more) day (last_begun begins first more day))
          → IsLastBegun begins first (first + suc more) day
          (if b then first + suc more else last_begun begins first more day)
      go true is earlier = record {
        early = omega arith;
        late = omega arith;
        begun = omega (arith, signed_arith, is);
        not_next = not_next;
      }
      go false is earlier =
          let same : first + more + 1 ≡ first + suc more = omega arith in
          let before : day <ℤ begins (first + suc more) = omega (arith, signed_arith, is) in
          let found = earlier (rw same before) in
          record {
            early = found.early;
            late = omega (arith, found.late);
            begun = found.begun;
            not_next = found.not_next;
          }

-- a year of these centuries is one that the calendar has
is_year : (year : ℕ) → year ≤ 2099 → IsYear (pos year)
is_year year last = (omega (arith, signed_arith), omega (arith, signed_arith))

-- the next year begins as many days later as the year has
next_year : (year : ℕ)
    → day_of_date (year + 1) 1 1 ≡ day_of_date year 1 1 +ℤ pos (days_in_year (pos year))
next_year year =
    let next =
    day_count-next_year (pos year) (pos (year + 1))
    (omega (arith, signed_arith)) (omega (arith, signed_arith)) in
    let this_is = days_from_civil-day_count (pos year) 1 1 in
    let next_is = days_from_civil-day_count (pos (year + 1)) 1 1 in
    omega (arith, signed_arith, next, this_is, next_is)

-- the next month begins as many days later as the month has
next_month : (year month : ℕ) → 1 ≤ month
    → day_of_date year (month + 1) 1
    ≡ day_of_date year month 1 +ℤ pos (days_in_month (pos year) month)
next_month year month first =
    let next = day_count-next_month (pos year) month first in
    let this_is = days_from_civil-day_count (pos year) month 1 in
    let next_is = days_from_civil-day_count (pos year) (month + 1) 1 in
    omega (arith, signed_arith, next, this_is, next_is)

-- a thirteenth month would begin with the next year
thirteenth_month : (year : ℕ) → day_of_date year 13 1 ≡ day_of_date (year + 1) 1 1
thirteenth_month year =
    let december = next_month year 12 (omega arith) in
    let last = day_count-last_of_year (pos year) in
    let in_december = day_count-day (pos year) 12 31 1 (omega arith) (omega arith) in
    let this_is = days_from_civil-day_count (pos year) 12 1 in
    let first_is = days_from_civil-day_count (pos year) 1 1 in
    omega (arith, signed_arith, december, last, in_december, this_is, first_is, next_year year)

-- the days from one day to a later one
gap_is : (early late : ℤ) → early ≤ℤ late → late ≡ early +ℤ pos (int_gap early late)
gap_is (pos a) (pos b) h = omega (arith, signed_arith)
gap_is (pos a) (negsuc b) h = absurd (omega (arith, signed_arith))
gap_is (negsuc a) (pos b) h = omega (arith, signed_arith)
gap_is (negsuc a) (negsuc b) h = omega (arith, signed_arith)

-- a date of the calendar, and its day
pub record IsDateOf (date : CalendarDate) (day : ℤ) : Type 0 where
  pub civil : IsCivilDate (pos date.year) date.month date.day
  pub day_is : day_of_date date.year date.month date.day ≡ day

-- so is the date that a day has in a month that has begun, with the next one later
date_in_month : (year month : ℕ) (day : ℤ) → year ≤ 2099
    → IsLastBegun (λ month. day_of_date year month 1) 1 12 day month
    → IsDateOf
    record { year = year; month = month; day = int_gap (day_of_date year month 1) day + 1 } day
date_in_month year month day last found =
    let days = int_gap (day_of_date year month 1) day in
    let gap = gap_is (day_of_date year month 1) day found.begun in
    let next = next_month year month found.early in
    let within : days < days_in_month (pos year) month =
    omega (arith, signed_arith, gap, next, found.not_next) in
    let moved =
    days_from_civil-day (pos year) month (days + 1) 1 (omega arith) (omega arith) in record {
      civil = (is_year year last, (found.early, found.late), (omega arith, omega (arith, within)));
      day_is = omega (arith, signed_arith, gap, moved);
    }

-- the date of a day is of the calendar, and the day is its day
pub date_of_found : (day : ℤ) → IsDay day → IsDateOf (date_of day) day
unfolding date_of
date_of_found day h =
    let begins = λ (year : ℕ). day_of_date year 1 1 in
    let year = last_begun begins 1900 199 day in
    let in_year =
    last_begun_found begins 1900 199 day
    (omega (arith, signed_arith, h, first_day_is)) (omega (arith, signed_arith, h, next_century)) in
    let months = λ (month : ℕ). day_of_date year month 1 in
    let in_month =
    last_begun_found months 1 11 day in_year.begun
    (omega (arith, signed_arith, in_year.not_next, thirteenth_month year)) in
    date_in_month year (last_begun months 1 11 day) day in_year.late in_month

-- jiff's date of a day
abbrev pub jiff_date_of : (day : ℤ) → IsDay day → Date
jiff_date_of day h =
    let date = date_of day in
    let civil = (date_of_found day h).civil in
    record {
      year = pos date.year;
      month = date.month;
      day = date.day;
      year_in = civil.0;
      month_in = civil.1;
      day_in = civil.2;
    }

-- its day is that day
pub epoch_day-jiff_date_of : (day : ℤ) (h : IsDay day) → epoch_day (jiff_date_of day h) ≡ day
epoch_day-jiff_date_of day h = (date_of_found day h).day_is

-- its text is the day's
pub date_text-jiff_date_of : (day : ℤ) (h : IsDay day)
    → jiff.date_text (jiff_date_of day h) ≡ day_text_of day
unfolding day_text_of
date_text-jiff_date_of day h = refl

-- so is the text of any date with that day
pub date_text-day_text_of : (day : ℤ) (date : Date) → IsDay day → epoch_day date ≡ day
    → jiff.date_text date ≡ day_text_of day
date_text-day_text_of day date h e =
    let parts =
    epoch_day_injective date (jiff_date_of day h) (e ∙ sym (epoch_day-jiff_date_of day h)) in
    rw (parts.0, parts.1, parts.2) (date_text-jiff_date_of day h)
