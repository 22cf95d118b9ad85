-- The amount of a credit as a word: money units with four decimals, as bills print them, with a minus before
-- one below 0.
use Rattle.std.specs.Prelude.{ℕ, ◌+◌, ◌-◌, ◌*◌, ◌&&◌, nat_lt, nat_eq, ℤ, pos, neg_ℤ, Bool, true, false}
use Rattle.std.specs.Prelude.{if◌then◌else◌, List, codes, length, take, drop, Option, Some, None}
use Rattle.std.specs.Prelude.{option_and_then, option_map}
use Rattle.std.specs.List.{starts_with}
use Rattle.book_model.specs.Words.{is_credit_amount}
use Rattle.book_http.specs.Numbers.{decimal_value}

-- whole units: at most ten digits, and no 0 before others
unfoldable pub units_in : List ℕ → Option ℕ
units_in text =
    if nat_lt 1 (length text) && starts_with nat_eq text (codes "0") then None
    else decimal_value 10 text

-- ten-thousandths, by units and four decimals
abbrev pub magnitude_by : Option ℕ → Option ℕ → Option ℕ
magnitude_by (Some units) (Some decimals) = Some (units * 10_000 + decimals)
magnitude_by units decimals = None

-- what stands before the point, and from the point on
abbrev pub before_point : List ℕ → List ℕ
before_point text = take (length text - 5) text

abbrev pub from_point : List ℕ → List ℕ
from_point text = drop (length text - 5) text

-- ten-thousandths without a sign
unfoldable pub magnitude_in : List ℕ → Option ℕ
magnitude_in text =
    if nat_lt (length text) 6 then None
    else if starts_with nat_eq (from_point text) (codes ".")
    then magnitude_by (units_in (before_point text)) (decimal_value 4 (drop 1 (from_point text)))
    else None

-- with one
abbrev pub with_sign : Bool → ℕ → ℤ
with_sign true magnitude = neg_ℤ (pos magnitude)
with_sign false magnitude = pos magnitude

unfoldable pub signed_in : List ℕ → Option ℤ
signed_in text =
    if starts_with nat_eq text (codes "-") then option_map (with_sign true) (magnitude_in (drop 1 text))
    else option_map (with_sign false) (magnitude_in text)

-- an amount that may be credited
abbrev pub if_credited : ℤ → Option ℤ
if_credited amount = if is_credit_amount amount then Some amount else None

abbrev pub amount_in : List ℕ → Option ℤ
amount_in text = option_and_then if_credited (signed_in text)
