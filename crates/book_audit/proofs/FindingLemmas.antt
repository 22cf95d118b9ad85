-- The parts of a finding, as the code writes them.
use Rattle.std.proofs.Common.{◌≡◌, ℕ, ◌-◌, ◌^◌, List, [], false, refl}
use Rattle.std.specs.Fmt.{decimal, padded_integral, format_spec}
use Rattle.std.proofs.Padding.{padded_integral_zeros}
use Rattle.book_audit.specs.Findings.{digits_in}

-- what `{n:0width}` writes
abbrev zeros_before : ℕ → ℕ → List ℕ
zeros_before width n = padded_integral (format_spec 32 0 4 width (2 ^ 64 - 1)) false [] (decimal n)

-- that is the number in that many digits
pub digits_written : (width n : ℕ) → zeros_before width n ≡ digits_in width n
digits_written width n =
    padded_integral_zeros (format_spec 32 0 4 width (2 ^ 64 - 1)) (decimal n) refl refl
