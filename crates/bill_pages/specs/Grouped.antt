-- Figures on pages: commas stand between the thousands of what comes before the point.
use Rattle.std.specs.Prelude.{ℕ, ◌+◌, ◌-◌, ◌%◌, ◌==◌, ◌&&◌, ◌||◌, nat_le, nat_lt, Bool}
use Rattle.std.specs.Prelude.{if◌then◌else◌, List, [], ◌∷◌, ◌++◌, codes}
use Rattle.std.specs.Str.{byte}
use Rattle.html_text.specs.Escaping.{escape_byte}

-- the byte is a digit
abbrev pub is_digit : ℕ → Bool
is_digit b = nat_le (byte "0") b && nat_le b (byte "9")

-- it may stand before the point: it is a digit, or the sign
abbrev pub is_whole : ℕ → Bool
is_whole b = is_digit b || b == byte "-"

-- how many bytes of a figure stand before its point
abbrev pub whole_length : List ℕ → ℕ
whole_length [] = 0
whole_length (b ∷ rest) = if is_whole b then 1 + whole_length rest else 0

-- so many digits are thousands, and some
abbrev pub are_thousands : ℕ → Bool
are_thousands left = nat_lt 0 left && (left % 3 == 0)

-- a comma follows a digit, where so many more come before the point
abbrev pub has_comma : ℕ → ℕ → Bool
has_comma left b = is_digit b && are_thousands left

-- a byte of a figure as a page shows it, before so many others
unfoldable pub digit : ℕ → ℕ → List ℕ
digit left b = if has_comma left b then escape_byte b ++ codes "," else escape_byte b

-- a text of which so many bytes stand before the point
abbrev pub in_thousands : ℕ → List ℕ → List ℕ
in_thousands whole [] = []
in_thousands whole (b ∷ rest) = digit (whole - 1) b ++ in_thousands (whole - 1) rest

-- a figure as a page shows it
unfoldable pub grouped : List ℕ → List ℕ
grouped text = in_thousands (whole_length text) text
