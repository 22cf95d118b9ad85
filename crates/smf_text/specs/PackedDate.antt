-- Packed dates, 0cyydddF, a half-byte each (SA38-0667, the date of the standard header).
use Rattle.std.specs.Prelude.{ℕ, ◌+◌, ◌*◌, ◌/◌, ◌%◌, ◌==◌, ◌&&◌, ◌||◌, not, nat_le, if◌then◌else◌, List, [], ◌∷◌, ◌++◌, take, slice_index, Bool, ℤ, pos, Result, Ok, Err}
use Rattle.std.specs.List.{list_all}
use Rattle.jiff_core.specs.Calendar.{days_in_year}
use Rattle.smf_text.specs.Day.{nth_day_of}
use Rattle.smf_text.specs.declared.packed_date.DateFault.{DateFault}
use Rattle.smf_text.specs.declared.packed_date.DateFault.TheVariants.{Digit, Century, DayOfYear, Sign}

-- where the half-bytes are, from 0: c, the two of yy, the three of ddd, and the sign
abbrev pub century_at : ℕ
century_at = 1

abbrev pub year_at : ℕ
year_at = 2

abbrev pub day_at : ℕ
day_at = 4

abbrev pub sign_at : ℕ
sign_at = 7

-- c counts the centuries from 1900 on: 0 for a year 19yy, and at most 1, for 20yy
abbrev pub base_year : ℕ
base_year = 1900

abbrev pub last_century : ℕ
last_century = 1

-- the sign that the manual gives, F, and the one that some writers use, C (the office's rule)
abbrev pub sign : ℕ
sign = 0xF

abbrev pub other_sign : ℕ
other_sign = 0xC

-- the two half-bytes of the byte at an offset, the high one first
abbrev pub half_bytes_at : List ℕ → ℕ → List ℕ
half_bytes_at bytes i = slice_index bytes i / 16 ∷ slice_index bytes i % 16 ∷ []

-- the eight half-bytes of four bytes
abbrev pub half_bytes : List ℕ → List ℕ
half_bytes bytes =
    half_bytes_at bytes 0 ++ half_bytes_at bytes 1
    ++ half_bytes_at bytes 2 ++ half_bytes_at bytes 3

-- each half-byte before the sign is a decimal digit
abbrev pub has_digits : List ℕ → Bool
has_digits halves = list_all (λ half. nat_le half 9) (take sign_at halves)

-- a 0, and then a century that is known
abbrev pub has_century : List ℕ → Bool
has_century halves =
    slice_index halves 0 == 0 && nat_le (slice_index halves century_at) last_century

-- the year, of c and yy
abbrev pub year_of : List ℕ → ℕ
year_of halves =
    base_year + 100 * slice_index halves century_at
    + 10 * slice_index halves year_at + slice_index halves (year_at + 1)

-- the day of the year, ddd
abbrev pub day_of_year : List ℕ → ℕ
day_of_year halves =
    100 * slice_index halves day_at
    + 10 * slice_index halves (day_at + 1) + slice_index halves (day_at + 2)

-- the year has such a day
abbrev pub has_day_of_year : List ℕ → Bool
has_day_of_year halves =
    nat_le 1 (day_of_year halves)
    && nat_le (day_of_year halves) (days_in_year (pos (year_of halves)))

-- one of the two signs
abbrev pub has_sign : List ℕ → Bool
has_sign halves = slice_index halves sign_at == sign || slice_index halves sign_at == other_sign

-- the day of eight half-bytes, or the first test that they fail
abbrev pub day_of_halves : List ℕ → Result ℤ DateFault
day_of_halves halves =
    if not (has_digits halves) then Err Digit
    else if not (has_century halves) then Err Century
    else if not (has_day_of_year halves) then Err DayOfYear
    else if not (has_sign halves) then Err Sign
    else Ok (nth_day_of (year_of halves) (day_of_year halves))

-- the day of the four bytes of a packed date, or the first test that they fail
unfoldable pub packed_day_of : List ℕ → Result ℤ DateFault
packed_day_of bytes = day_of_halves (half_bytes bytes)

-- the number that reports and messages show
abbrev pub date_number : DateFault → ℕ
date_number Digit = 1
date_number Century = 2
date_number DayOfYear = 3
date_number Sign = 4
