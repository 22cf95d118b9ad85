-- What is escaped makes no markup.
use Rattle.std.proofs.Common.{◌≡◌, ℕ, Bool, true, false, List, [], ◌∷◌, ◌++◌, refl}
use Rattle.std.specs.Prelude.{◌==◌, nat_lt, if◌then◌else◌}
use Rattle.std.specs.List.{flat_map, list_any}
use Rattle.std.specs.Str.{byte}
use Rattle.html_text.specs.Escaping.{DataMakesNoMarkup, are_references, escape_byte, escaped}
use Rattle.html_text.specs.Escaping.{is_markup}

-- what holds of two texts holds of the one that a test picks
pick : (P : List ℕ → Type 0) (test : Bool) (one other : List ℕ)
    → P one → (test ≡ false → P other) → P (if test then one else other)
pick P true one other is then_other = is
pick P false one other is then_other = then_other refl

-- a byte before others, of which none is markup's
byte_plain : (b : ℕ) (rest : List ℕ) → list_any is_markup rest ≡ false
    → list_any is_markup (escape_byte b ++ rest) ≡ false
byte_plain b rest plain =
    let P : List ℕ → Type 0 = λ bytes. list_any is_markup (bytes ++ rest) ≡ false in
    pick P (b == byte "&") _ _ plain λ no_ampersand.
    pick P (b == byte "<") _ _ plain λ no_less.
    pick P (b == byte ">") _ _ plain λ no_more.
    pick P (b == byte "\"") _ _ plain λ no_quote.
    pick P (b == byte "'") _ _ plain λ no_apostrophe.
    pick P (nat_lt b 128) (b ∷ []) _ (rw (no_less, no_more, no_quote, no_apostrophe) plain)
    λ no_ascii. plain

-- a byte before others, of which each ampersand begins a reference
byte_referred : (b : ℕ) (rest : List ℕ) → are_references rest ≡ true
    → are_references (escape_byte b ++ rest) ≡ true
byte_referred b rest are =
    let P : List ℕ → Type 0 = λ bytes. are_references (bytes ++ rest) ≡ true in
    pick P (b == byte "&") _ _ are λ no_ampersand.
    pick P (b == byte "<") _ _ are λ no_less.
    pick P (b == byte ">") _ _ are λ no_more.
    pick P (b == byte "\"") _ _ are λ no_quote.
    pick P (b == byte "'") _ _ are λ no_apostrophe.
    pick P (nat_lt b 128) (b ∷ []) _ (rw no_ampersand are) λ no_ascii. are

all_plain : (text : List ℕ) → list_any is_markup (flat_map escape_byte text) ≡ false
all_plain [] = refl
all_plain (b ∷ rest) = byte_plain b (flat_map escape_byte rest) (all_plain rest)

all_referred : (text : List ℕ) → are_references (flat_map escape_byte text) ≡ true
all_referred [] = refl
all_referred (b ∷ rest) = byte_referred b (flat_map escape_byte rest) (all_referred rest)

pub data_makes_no_markup : DataMakesNoMarkup
unfolding escaped
data_makes_no_markup text = record { bytes = all_plain text; references = all_referred text }
