-- Names of centres and shifts.
use Rattle.std.specs.Prelude.{◌≡◌, ℕ, zero, suc, ◌+◌, ◌-◌, ◌*◌, ◌^◌, ◌==◌, ◌&&◌, ◌||◌, nat_le, Bool}
use Rattle.std.specs.Prelude.{IsTrue, List, [], ◌∷◌, ◌++◌, length, take, replicate}
use Rattle.std.specs.List.{list_all}
use Rattle.std.specs.Char.{is_ascii_uppercase, is_ascii_digit}

-- the most characters that a name has (the office's rule)
abbrev pub longest_name : ℕ
longest_name = 16

-- the hyphen, in ASCII
abbrev pub hyphen : ℕ
hyphen = 45

-- A to Z, 0 to 9, or the hyphen
abbrev pub is_name_character : ℕ → Bool
is_name_character c = is_ascii_uppercase c || is_ascii_digit c || c == hyphen

-- one of them at least, and no more than the longest name has
abbrev pub is_name : List ℕ → Bool
is_name text =
    nat_le 1 (length text) && nat_le (length text) longest_name
    && list_all is_name_character text

-- the text of a name
abbrev pub IsName : List ℕ → Type 0
IsName text = IsTrue (is_name text)

-- a text, and zeros up to the length of the longest name
abbrev pub padded : List ℕ → List ℕ
padded text = text ++ replicate (longest_name - length text) 0

-- the number of a text of at most so many bytes, the first of them the highest
abbrev pub digits_value : ℕ → List ℕ → ℕ
digits_value zero digits = 0
digits_value (suc n) [] = 0
digits_value (suc n) (digit ∷ digits) = digit * 256 ^ n + digits_value n digits

-- how a name is kept: sixteen bytes, first its text and then zeros
pub record IsPadded (letters : List ℕ) (len : ℕ) : Type 0 where
  pub name : IsName (take len letters)
  pub lasts : length (take len letters) ≡ len
  pub zeros : padded (take len letters) ≡ letters
