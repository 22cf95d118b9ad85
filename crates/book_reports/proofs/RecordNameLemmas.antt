-- What digits spell a name.
use Rattle.std.proofs.Common.{◌≡◌, ◌<◌, ◌*◌, ℕ, true, List, [], ◌∷◌, length, Some, Result, Ok, Err}
use Rattle.std.proofs.Common.{IsOk, refl, arith}
use Rattle.std.specs.List.{AllPass}
use Rattle.hex.proofs.HexLemmas.{IsOk-decode_sized}
use Rattle.hex.specs.Hex.{decode_sized, is_hex_digit}
use Rattle.hex.specs.declared.error.FromHexError.{FromHexError}
use Rattle.book_model.proofs.Std.{All-head, result_ok}
use Rattle.book_reports.proofs.Words.{name_in, name_length}

-- where there is a name, the digits were read
was_read : (read : Result (List ℕ) FromHexError) (name : List ℕ) → result_ok read ≡ Some name
    → IsOk read
was_read (Ok bytes) name e = refl
was_read (Err fault) name e = cc e

-- digits that spell a name begin with one
pub name_begins : (digits name : List ℕ) → name_in digits ≡ Some name
    → (digit : ℕ) × (rest : List ℕ) × (digit < 256) × (digits ≡ digit ∷ rest)
name_begins digits name named =
    by digits ((IsOk-decode_sized digits name_length).0
    (was_read (decode_sized digits name_length) name named))
  where
    small : (digit : ℕ) → is_hex_digit digit ≡ true → digit < 256
    small digit is = grind (arith)

    by : (digits : List ℕ) → (length digits ≡ 2 * name_length) × AllPass is_hex_digit digits
        → (digit : ℕ) × (rest : List ℕ) × (digit < 256) × (digits ≡ digit ∷ rest)
    by [] is = absurd (omega (arith, is.0))
    by (digit ∷ rest) is = (
      digit,
      rest,
      small digit (All-head (λ c. is_hex_digit c ≡ true) digit rest is.1),
      refl,
    )
