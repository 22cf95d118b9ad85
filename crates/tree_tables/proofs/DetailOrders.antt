-- The order of details by all that they show, and that of the rows of details.
use Rattle.std.proofs.Common.{◌≡◌, ◌∙◌, ℕ, List, pos, Option, None, Some, refl, ap}
use Rattle.std.proofs.Common.{arith}
use Rattle.std.proofs.lemmas.Bool.Decides.{nat_tests}
use Rattle.std.proofs.lemmas.Int.{ints}
use Rattle.std.specs.Cmp.{IsTotalOrder, nat_cmp_total, on_total, then_total}
use Rattle.std.specs.Cmp.Lexicographic.{nat_list_cmp_total, options_total}
use Rattle.std.specs.FinMap.{IsAntisymmetric, nat_cmp-IsAntisymmetric}
use Rattle.std.specs.Option.{option_cmp}
use Rattle.std.specs.Ordering.{int_cmp, nat_cmp, ordering_then}
use Rattle.std.specs.declared.cmp.Ordering.{Ordering}
use Rattle.std.specs.declared.cmp.Ordering.TheVariants.{Less, Equal, Greater}
use Rattle.sqlite_value.proofs.OrderLemmas.{value_cmp-Int, value_cmp-Null, value_cmp-apart}
use Rattle.sqlite_value.specs.Order.{value_cmp}
use Rattle.sqlite_value.specs.declared.value.Value.TheVariants.{Int, Null}
use Rattle.book_model.specs.Words.{key_of}
use Rattle.book_model.specs.declared.detail.Detail.{Detail}
use Rattle.book_model.specs.declared.row.RowKey.{RowKey}
use Rattle.book_model.proofs.DetailOrder.{by_detail_total}
use Rattle.book_model.proofs.RowLemmas.{by_key_exact}
use Rattle.tree_rows.proofs.IndexOrders.{by_bytes_exact, parts_exact}
use Rattle.tree_rows.proofs.Maps.{then_assoc}
use Rattle.tree_tables.specs.Columns.{step_value}
use Rattle.tree_tables.specs.Holds.{by_shown, by_work}

-- numbers that are not below 0 compare as such
pub numbers : (m n : ℕ) → int_cmp (pos m) (pos n) ≡ nat_cmp m n
numbers m n = grind (arith, ints, nat_tests)

-- where values that may be missing have one place, they are one
option_exact : {A : Type 0} {R : A → A → Ordering} → IsAntisymmetric R
    → IsAntisymmetric (option_cmp R)
option_exact exact None None e = refl
option_exact exact None (Some y) e = absurd (cc)
option_exact exact (Some x) None e = absurd (cc)
option_exact exact (Some x) (Some y) e = ap (λ z. Some z) (exact x y e)

-- the order is total
by_work_total : IsTotalOrder by_work
by_work_total =
    then_total (on_total (λ (detail : Detail). detail.job) nat_list_cmp_total)
    (then_total (on_total (λ (detail : Detail). detail.program) nat_list_cmp_total)
    (then_total (on_total (λ (detail : Detail). detail.job_id) nat_list_cmp_total)
    (then_total (on_total (λ (detail : Detail). detail.step) (options_total nat_cmp_total))
    (then_total (on_total (λ (detail : Detail). detail.priced.cpu) nat_cmp_total)
    (then_total (on_total (λ (detail : Detail). detail.priced.excp) nat_cmp_total)
    (on_total (λ (detail : Detail). detail.priced.amount) nat_cmp_total))))))

pub by_shown_total : IsTotalOrder by_shown
by_shown_total = then_total by_detail_total by_work_total

-- what details show, in the order in which it is compared
abbrev Place : Type 0
Place = RowKey × (ℕ × List ℕ)

abbrev Work : Type 0
Work = List ℕ × (List ℕ × (List ℕ × (Option ℕ × (ℕ × (ℕ × ℕ)))))

abbrev parts_of : Detail → Place × Work
parts_of detail = (
  (key_of detail.priced, (detail.time, detail.name)),
  (
    detail.job,
    (
      detail.program,
      (
        detail.job_id,
        (detail.step, (detail.priced.cpu, (detail.priced.excp, detail.priced.amount))),
      ),
    ),
  ),
)

-- a detail is made of it
abbrev made_of : Place × Work → Detail
made_of parts = record {
  priced = record {
    day = parts.0.0.day;
    shift = parts.0.0.shift;
    centre = parts.0.0.centre;
    cpu = parts.1.1.1.1.1.0;
    excp = parts.1.1.1.1.1.1.0;
    amount = parts.1.1.1.1.1.1.1;
  };
  time = parts.0.1.0;
  name = parts.0.1.1;
  job = parts.1.0;
  program = parts.1.1.0;
  job_id = parts.1.1.1.0;
  step = parts.1.1.1.1.0;
}

-- so the order keeps all details apart
pub by_shown_exact : IsAntisymmetric by_shown
by_shown_exact a b e =
    let numbers_exact = parts_exact nat_cmp-IsAntisymmetric
    (parts_exact nat_cmp-IsAntisymmetric nat_cmp-IsAntisymmetric) in
    let work_exact = parts_exact by_bytes_exact (parts_exact by_bytes_exact
    (parts_exact by_bytes_exact
    (parts_exact (option_exact nat_cmp-IsAntisymmetric) numbers_exact))) in
    let place_exact = parts_exact by_key_exact
    (parts_exact nat_cmp-IsAntisymmetric by_bytes_exact) in
    ap made_of (parts_exact place_exact work_exact (parts_of a) (parts_of b) e)

-- the numbers of steps compare as their columns do
pub by_step : (one other : Option ℕ)
    → value_cmp (step_value one) (step_value other) ≡ option_cmp nat_cmp one other
by_step None None = value_cmp-Null Null
by_step None (Some n) = value_cmp-Null (Int (pos n))
by_step (Some m) None = value_cmp-apart (Int (pos m)) Null (λ same. omega (arith, same))
by_step (Some m) (Some n) = value_cmp-Int (pos m) (pos n) ∙ numbers m n

-- Of comparisons one after the other it does not matter which are taken together: of a day, a centre
-- and a shift,
pub place_first : (day centre shift rest : Ordering)
    → ordering_then day (ordering_then centre (ordering_then shift rest))
    ≡ ordering_then (ordering_then day (ordering_then centre shift)) rest
place_first Less centre shift rest = refl
place_first Greater centre shift rest = refl
place_first Equal Less shift rest = refl
place_first Equal Greater shift rest = refl
place_first Equal Equal shift rest = refl

-- and then of a time and a name
pub in_turn : (day centre shift time name rest : Ordering)
    → ordering_then day (ordering_then centre (ordering_then shift (ordering_then time
    (ordering_then name rest))))
    ≡ ordering_then (ordering_then (ordering_then day (ordering_then centre shift))
    (ordering_then time name)) rest
in_turn day centre shift time name rest =
    let place = ordering_then day (ordering_then centre shift) in
    place_first day centre shift (ordering_then time (ordering_then name rest))
    ∙ ap (ordering_then place) (then_assoc time name rest)
    ∙ then_assoc place (ordering_then time name) rest
