-- The orders of pairs are total, and no two pairs have one place in them.
use Rattle.std.proofs.Common.{◌≡◌, refl}
use Rattle.std.specs.Cmp.{IsTotalOrder, then_total, on_total, nat_cmp_total}
use Rattle.std.specs.Cmp.Lexicographic.{nat_list_cmp_total}
use Rattle.std.specs.FinMap.{IsAntisymmetric, nat_cmp-IsAntisymmetric, slice_cmp-IsAntisymmetric}
use Rattle.std.specs.Ordering.{ordering_then}
use Rattle.std.specs.declared.cmp.Ordering.{Ordering}
use Rattle.std.specs.declared.cmp.Ordering.TheVariants.{Less, Equal, Greater}
use Rattle.tree_rows.specs.Indexes.{by_parts, by_bytes, by_both, by_mark}

-- where two comparisons together say Equal, the first does
pub first_equal : (a b : Ordering) → ordering_then a b ≡ Equal → a ≡ Equal
first_equal Less b e = absurd (cc)
first_equal Equal b e = refl
first_equal Greater b e = absurd (cc)

-- and so does the second
pub second_equal : (a b : Ordering) → ordering_then a b ≡ Equal → b ≡ Equal
second_equal Less b e = absurd (cc)
second_equal Equal b e = e
second_equal Greater b e = absurd (cc)

module _ {A B : Type 0} {R : A → A → Ordering} {S : B → B → Ordering} where
  -- pairs with parts that have total orders have one
  pub parts_total : IsTotalOrder R → IsTotalOrder S → IsTotalOrder (by_parts R S)
  parts_total first second = then_total (on_total (λ (p : A × B). p.0) first)
      (on_total (λ (p : A × B). p.1) second)

  -- and where no two parts have one place, no two pairs do
  pub parts_exact : IsAntisymmetric R → IsAntisymmetric S → IsAntisymmetric (by_parts R S)
  parts_exact first second p q e = same (first p.0 q.0 (first_equal (R p.0 q.0) (S p.1 q.1) e))
      (second p.1 q.1 (second_equal (R p.0 q.0) (S p.1 q.1) e))
    where
      same : p.0 ≡ q.0 → p.1 ≡ q.1 → p ≡ q
      same a b = λ i. (a i, b i)

-- byte strings are in one place only where they are one
pub by_bytes_exact : IsAntisymmetric by_bytes
by_bytes_exact = slice_cmp-IsAntisymmetric nat_cmp-IsAntisymmetric

-- pairs of byte strings
pub by_both_total : IsTotalOrder by_both
by_both_total = parts_total nat_list_cmp_total nat_list_cmp_total

pub by_both_exact : IsAntisymmetric by_both
by_both_exact = parts_exact by_bytes_exact by_bytes_exact

-- marks and pairs of byte strings
pub by_mark_total : IsTotalOrder by_mark
by_mark_total = parts_total nat_cmp_total by_both_total

pub by_mark_exact : IsAntisymmetric by_mark
by_mark_exact = parts_exact nat_cmp-IsAntisymmetric by_both_exact
