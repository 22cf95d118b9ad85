-- Days, as the code holds them.
use Rattle.std.proofs.Common.{◌≡◌, FitsSigned, arith, w32, to_z, of_z, ℤ, pos, negsuc}
use Rattle.std.proofs.lemmas.Int.{ints, to_z-of_z}
use Rattle.book_model.specs.Words.{IsDay}

-- a day fits the code's numbers
pub day_fits : (day : ℤ) → IsDay day → FitsSigned w32 day
day_fits (pos n) is = record { sfits = omega (arith, ints) }
day_fits (negsuc n) is = record { sfits = omega (arith, ints) }

-- and is the same there
pub day_kept : (day : ℤ) → IsDay day → to_z w32 (of_z w32 day) ≡ day
day_kept day is = to_z-of_z w32 day (day_fits day is)
