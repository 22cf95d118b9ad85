-- The difference of two numbers in digits.
use Rattle.std.proofs.Common.{◌≡◌, ℕ, suc, ◌+◌, ◌-◌, ◌<◌, ◌≤◌, ◌++◌, ◌∙◌, ap, arith}
use Rattle.std.specs.Fmt.{decimal, signed_decimal}
use Rattle.std.specs.Prelude.{◌-ℤ◌, codes, negsuc, pos}
use Rattle.std.proofs.lemmas.Int.{ints}

-- not below zero
pub from_zero : (more less : ℕ) → less ≤ more
    → signed_decimal (pos more -ℤ pos less) ≡ decimal (more - less)
from_zero more less within =
    let is : pos more -ℤ pos less ≡ pos (more - less) = omega (arith, ints) in
    ap signed_decimal is

-- below zero
pub below_zero : (more less : ℕ) → more < less
    → signed_decimal (pos more -ℤ pos less) ≡ codes "-" ++ decimal (less - more)
below_zero more less under =
    let is : pos more -ℤ pos less ≡ negsuc (less - (more + 1)) = omega (arith, ints) in
    let up : suc (less - (more + 1)) ≡ less - more = omega arith in
    ap signed_decimal is ∙ ap (λ n. codes "-" ++ decimal n) up
