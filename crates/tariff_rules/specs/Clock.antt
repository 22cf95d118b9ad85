-- A minute of the day, as HH:MM.
use Rattle.std.specs.Prelude.{ℕ, ◌+◌, ◌-◌, ◌*◌, ◌==◌, ◌&&◌, Bool, nat_le, nat_lt}
use Rattle.std.specs.Prelude.{if◌then◌else◌, List, length, slice_index, Option, Some, None}
use Rattle.std.specs.Char.{is_ascii_digit}

-- the characters of HH:MM
abbrev pub clock_length : ℕ
clock_length = 5

abbrev pub minutes_per_hour : ℕ
minutes_per_hour = 60

-- of 24 hours
abbrev pub minutes_per_day : ℕ
minutes_per_day = 1440

-- two digits, a colon (code 58), and two digits
abbrev pub is_clock_text : List ℕ → Bool
is_clock_text text =
    length text == clock_length
    && is_ascii_digit (slice_index text 0) && is_ascii_digit (slice_index text 1)
    && slice_index text 2 == 58
    && is_ascii_digit (slice_index text 3) && is_ascii_digit (slice_index text 4)

-- the number of two digits; the code of the digit 0 is 48
abbrev pub two_digits : ℕ → ℕ → ℕ
two_digits tens ones = 10 * (tens - 48) + (ones - 48)

abbrev pub hour_of : List ℕ → ℕ
hour_of text = two_digits (slice_index text 0) (slice_index text 1)

abbrev pub minute_in_hour : List ℕ → ℕ
minute_in_hour text = two_digits (slice_index text 3) (slice_index text 4)

abbrev pub minute_in_day : List ℕ → ℕ
minute_in_day text = minutes_per_hour * hour_of text + minute_in_hour text

-- a minute of an hour, no later than 24:00
abbrev pub is_in_day : List ℕ → Bool
is_in_day text =
    nat_lt (minute_in_hour text) minutes_per_hour && nat_le (minute_in_day text) minutes_per_day

-- the minute of the day, from 00:00 to 24:00
abbrev pub minute_of_text : List ℕ → Option ℕ
minute_of_text text =
    if is_clock_text text && is_in_day text then Some (minute_in_day text) else None
