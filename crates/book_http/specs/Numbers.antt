-- Numbers in a request.
use Rattle.std.specs.Prelude.{ℕ, Bool, ◌&&◌, nat_lt, nat_le, if◌then◌else◌, List, length}
use Rattle.std.specs.Prelude.{Option, Some, None}
use Rattle.std.specs.Char.{is_ascii_digit}
use Rattle.std.specs.List.{list_all}
use Rattle.std.specs.Str.Parse.{digits_value}

-- a text of one to a given number of digits
abbrev pub is_number : ℕ → List ℕ → Bool
is_number most text =
    (nat_lt 0 (length text) && nat_le (length text) most) && list_all is_ascii_digit text

-- the number that such a text writes
unfoldable pub decimal_value : ℕ → List ℕ → Option ℕ
decimal_value most text = if is_number most text then Some (digits_value 10 text) else None
