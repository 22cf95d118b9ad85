-- Numbers with decimal places, as the code writes them.
use Rattle.std.proofs.Common.{◌≡◌, ℕ, ◌-◌, ◌^◌, List, [], ◌∷◌, ◌++◌, false, refl, append_assoc}
use Rattle.std.specs.Fmt.{decimal, padded_integral, format_spec}
use Rattle.std.specs.Prelude.{codes}
use Rattle.std.proofs.Padding.{padded_integral_zeros}
use Rattle.report_texts.specs.Columns.{digits_in}

-- what `{n:0width}` writes
abbrev zeros_before : ℕ → ℕ → List ℕ
zeros_before width n = padded_integral (format_spec 32 0 4 width (2 ^ 64 - 1)) false [] (decimal n)

-- that is the number in that many digits
pub digits_written : (width n : ℕ) → zeros_before width n ≡ digits_in width n
digits_written width n =
    padded_integral_zeros (format_spec 32 0 4 width (2 ^ 64 - 1)) (decimal n) refl refl

-- what `{whole}.{rest:0width}` writes
pub places_written : (whole width rest : ℕ)
    → decimal whole ++ (46 ∷ zeros_before width rest)
    ≡ decimal whole ++ codes "." ++ digits_in width rest
places_written whole width rest = rw (digits_written width rest) (simp append_assoc)
