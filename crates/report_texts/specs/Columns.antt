-- Texts in columns, and numbers with decimal places. A text is its bytes.
use Rattle.std.specs.Prelude.{ℕ, ◌-◌, ◌/◌, ◌%◌, List, ◌++◌, length, replicate, codes, Option, Some}
use Rattle.std.specs.Prelude.{None, decimal, if◌then◌else◌, ℤ, pos, int_lt, unsigned_abs, []}
use Rattle.std.specs.Str.{byte}

abbrev pub newline : List ℕ
newline = codes "\n"

-- a number of blanks
abbrev pub blanks : ℕ → List ℕ
blanks count = replicate count (byte " ")

-- a text at the left of a column of that width, blanks after it
abbrev pub left_aligned : ℕ → List ℕ → List ℕ
left_aligned width text = text ++ blanks (width - length text)

-- a text at the right of a column of that width, blanks before it
abbrev pub right_aligned : ℕ → List ℕ → List ℕ
right_aligned width text = blanks (width - length text) ++ text

-- a number in a given count of digits, zeros before it
abbrev pub digits_in : ℕ → ℕ → List ℕ
digits_in width number = replicate (width - length (decimal number)) (byte "0") ++ decimal number

-- a number, or `-` where there is none
unfoldable pub number_text : Option ℕ → List ℕ
number_text None = codes "-"
number_text (Some number) = decimal number

-- hundredths of a second, in seconds
unfoldable pub seconds_text : ℕ → List ℕ
seconds_text hundredths = decimal (hundredths / 100) ++ codes "." ++ digits_in 2 (hundredths % 100)

-- ten-thousandths of the money unit, in units
unfoldable pub amount_text : ℕ → List ℕ
amount_text amount = decimal (amount / 10_000) ++ codes "." ++ digits_in 4 (amount % 10_000)

-- the same of an amount that may be below zero: a minus sign comes before it then
unfoldable pub credit_text : ℤ → List ℕ
credit_text amount =
    (if int_lt amount (pos 0) then codes "-" else []) ++ amount_text (unsigned_abs amount)
