-- A view that is read from tables gives a member only if it counts one.
use Rattle.std.proofs.Common.{◌≡◌, ℕ, suc, List, [], ◌∷◌, length, refl, true, false, Some, None}
use Rattle.std.proofs.Common.{is_some, arith, ◌==◌, if◌then◌else◌}
use Rattle.book_model.proofs.Std.{nat_tests}
use Rattle.table_model.specs.Laws.{ViewFits}
use Rattle.table_model.specs.Words.{ChoiceTable, RecordRow, rows_with, rows_count, only_row}
use Rattle.table_model.specs.Words.{member_at, has_choice, lone_members}

-- by the rows of the identity
fits : (choices : ChoiceTable) (rows : List (List ℕ × RecordRow))
    → is_some (only_row choices rows) ≡ (rows_count choices rows == 1)
fits choices [] = refl
fits choices (one ∷ []) =
    elim (has_choice choices one.0) as (λ c.
    is_some (if c then None else Some (member_at one)) ≡ (lone_members c == 1)) [
      | true ↦ refl
      | false ↦ refl
    ]
fits choices (one ∷ other ∷ more) = not_one (length more)
  where
    not_one : (n : ℕ) → false ≡ (suc (suc n) == 1)
    not_one n = grind (arith, nat_tests)

-- the law
pub view_fits : ViewFits
view_fits tables identity = fits tables.choices (rows_with identity tables.records)
