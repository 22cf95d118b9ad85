-- The lines of closed periods, one further.
use Rattle.std.proofs.Common.{◌≡◌, ℕ, ◌+◌, ◌<◌, List, [], ◌∷◌, ◌++◌, length, take, get_or, arith}
use Rattle.std.proofs.Common.{append_assoc, ℤ, Some}
use Rattle.std.proofs.lemmas.Grind.{common_steps}
use Rattle.std.proofs.lemmas.List.{take_more, length-take-le}
use Rattle.report_texts.specs.PeriodLists.{closed_lines, period_line}

-- the lines of one more closed period end with the line of that period
closed-append : (period : ℕ) (closes : List ℤ) (through : ℤ)
    → closed_lines period (closes ++ through ∷ [])
    ≡ closed_lines period closes ++ period_line (period + length closes) (Some through)
closed-append period [] through = grind (arith, common_steps)
closed-append period (first ∷ rest) through =
    grind (arith, common_steps, append_assoc, closed-append (period + 1) rest through)

-- after i periods the line of number i + 1 comes next
pub one_more_period : (closes : List ℤ) (i : ℕ) (other : ℤ) → i < length closes
    → closed_lines 1 (take (i + 1) closes)
    ≡ closed_lines 1 (take i closes) ++ period_line (i + 1) (Some (get_or closes i other))
one_more_period closes i other below =
    let next = get_or closes i other in
    grind (
      arith,
      common_steps,
      take_more closes i other below,
      length-take-le,
      closed-append 1 (take i closes) next,
    )
