-- The days of the years from 1900 to 2099.
use Rattle.std.proofs.Common.{◌≡◌, ℕ, ◌+◌, ◌≤◌, refl, ap, arith, pos, ◌+ℤ◌, inl, inr}
use Rattle.std.proofs.lemmas.Bool.{cases_lt}
use Rattle.jiff_core.specs.Calendar.{day_count, days_of_years, days_of_months, days_in_year}
use Rattle.jiff_core.proofs.SignedLemmas.{signed_arith}
use Rattle.jiff_core.proofs.MarchLemmas.{days_of_years-march_days}
use Rattle.jiff_core.proofs.CalendarLemmas.{day_count-later_year, days_from_civil-day_count}
use Rattle.smf_text.specs.Day.{IsDay, first_day, last_day, day_of_date, nth_day_of}

-- the days before a year are those of the years from -10000 on
day_count-first : (year years : ℕ) → year + 10000 ≡ years
    → day_count (pos year) 1 1 ≡ days_of_years years
unfolding day_count days_of_months
day_count-first year years e = let same = ap days_of_years e in omega (arith, same)

-- the days before 1900-01-01
pub day_count-1900 : day_count (pos 1900) 1 1 ≡ 4_346_386
day_count-1900 =
    let first = day_count-first 1900 11900 refl in
    let closed = days_of_years-march_days 11900 in
    omega (arith, first, closed)

-- the days before 2100-01-01
pub day_count-2100 : day_count (pos 2100) 1 1 ≡ 4_419_435
day_count-2100 =
    let first = day_count-first 2100 12100 refl in
    let closed = days_of_years-march_days 12100 in
    omega (arith, first, closed)

-- 1900-01-01 is the first day
pub first_day_is : day_of_date 1900 1 1 ≡ first_day
first_day_is =
    omega (arith, signed_arith, day_count-1900, days_from_civil-day_count (pos 1900) 1 1)

-- 2100-01-01 is the day after the last
pub next_century : day_of_date 2100 1 1 ≡ last_day +ℤ pos 1
next_century =
    omega (arith, signed_arith, day_count-2100, days_from_civil-day_count (pos 2100) 1 1)

-- a year of these two centuries begins no earlier than the first
day_count-since_1900 : (year : ℕ) → 1900 ≤ year → 4_346_386 ≤ day_count (pos year) 1 1
day_count-since_1900 year early = elim (cases_lt 1900 year) [
  | inl lt ↦
      let later =
      day_count-later_year (pos 1900) (pos year)
      (omega (arith, signed_arith)) (omega (arith, signed_arith)) in
      omega (arith, later, day_count-1900)
  | inr ge ↦
      let is : year ≡ 1900 = omega arith in
      let same = ap (λ n. day_count (pos n) 1 1) is in
      omega (arith, same, day_count-1900)
]

-- the nth day of a year of these two centuries is one of their days
pub nth_day_is_day : (year n : ℕ) → 1900 ≤ year → year ≤ 2099 → 1 ≤ n → n ≤ days_in_year (pos year)
    → IsDay (nth_day_of year n)
nth_day_is_day year n early late first last =
    let before =
    day_count-later_year (pos year) (pos 2100)
    (omega (arith, signed_arith)) (omega (arith, signed_arith)) in
    let after = day_count-since_1900 year early in
    let number = days_from_civil-day_count (pos year) 1 1 in (
      omega (arith, signed_arith, before, after, number, day_count-2100),
      omega (arith, signed_arith, before, after, number, day_count-2100),
    )
