-- Midnights, as the code holds their days.
use Rattle.std.proofs.Common.{◌≡◌, ◌+ℤ◌, FitsSigned, ℤ, arith, negsuc, of_z, pos, to_z, w32}
use Rattle.std.proofs.lemmas.Int.{ints, to_z-of_z}
use Rattle.book_model.specs.Words.{IsDay}
use Rattle.report_texts.specs.Midnights.{IsMidnight}

-- the day of a midnight fits the code's numbers
fits : (day : ℤ) → IsMidnight day → FitsSigned w32 day
fits (pos n) is = record { sfits = omega (arith, ints) }
fits (negsuc n) is = record { sfits = omega (arith, ints) }

-- and is the same there
pub midnight_kept : (day : ℤ) → IsMidnight day → to_z w32 (of_z w32 day) ≡ day
midnight_kept day is = to_z-of_z w32 day (fits day is)

-- a day has a midnight after it
pub next_midnight : (day : ℤ) → IsDay day → IsMidnight (day +ℤ pos 1)
next_midnight day is = (omega (arith, ints), omega (arith, ints))
