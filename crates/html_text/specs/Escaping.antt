-- Texts inside a page: the bytes that markup is made of are written as references to them.
use Rattle.std.specs.Prelude.{◌≡◌, ℕ, ◌==◌, ◌||◌, ◌&&◌, not, nat_eq, nat_lt, if◌then◌else◌, Bool}
use Rattle.std.specs.Prelude.{true, false, List, [], ◌∷◌, codes, flat_map}
use Rattle.std.specs.List.{list_any, starts_with}
use Rattle.std.specs.Str.{byte}

-- a byte as a page shows it; none that is no ASCII comes into a page
abbrev pub escape_byte : ℕ → List ℕ
escape_byte b =
    if b == byte "&" then codes "&amp;"
    else if b == byte "<" then codes "&lt;"
    else if b == byte ">" then codes "&gt;"
    else if b == byte "\"" then codes "&quot;"
    else if b == byte "'" then codes "&#39;"
    else if nat_lt b 128 then b ∷ []
    else codes "?"

-- a text as a page shows it
unfoldable pub escaped : List ℕ → List ℕ
escaped text = flat_map escape_byte text

-- the byte can begin or end a tag, or end the value of an attribute
abbrev pub is_markup : ℕ → Bool
is_markup b = b == byte "<" || b == byte ">" || b == byte "\"" || b == byte "'"

-- the references that stand for bytes
abbrev pub references : List (List ℕ)
references =
    codes "&amp;" ∷ codes "&lt;" ∷ codes "&gt;" ∷ codes "&quot;" ∷ codes "&#39;" ∷ []

-- the text begins with one of them
abbrev pub begins_reference : List ℕ → Bool
begins_reference text = list_any (λ reference. starts_with nat_eq text reference) references

-- each ampersand of the text begins one of them
abbrev pub are_references : List ℕ → Bool
are_references [] = true
are_references (b ∷ rest) =
    (not (b == byte "&") || begins_reference (b ∷ rest)) && are_references rest

-- no byte of the text is markup's: none can begin or end a tag, end an attribute, or begin a
-- reference but one of those
pub record MakesNoMarkup (text : List ℕ) : Type 0 where
  pub bytes : list_any is_markup text ≡ false
  pub references : are_references text ≡ true

-- whatever comes from a dump, what a page shows of it makes no markup
abbrev pub DataMakesNoMarkup : Type 0
DataMakesNoMarkup = (text : List ℕ) → MakesNoMarkup (escaped text)
