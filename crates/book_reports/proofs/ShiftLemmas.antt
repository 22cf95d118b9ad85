-- The shifts of a tariff, each in its place.
use Rattle.std.proofs.Common.{◌≡◌, ◌∙◌, List, [], ◌∷◌, ◌++◌, ap, append-nil, append_assoc, arith, map}
use Rattle.std.proofs.Common.{sym, ℕ}
use Rattle.std.proofs.lemmas.Map.Lookups.{exact_pairs}
use Rattle.std.specs.BTreeSet.{insert_key}
use Rattle.std.specs.FinMap as finite
use Rattle.tariff_rules.specs.Price.{base_shift}
use Rattle.tariff_rules.specs.Terms.{ShiftRule, Terms}
use Rattle.tariff_rules.specs.declared.shift.Shift.{Shift}
use Rattle.book_model.proofs.Std.{IsTotalOrder, exact_bytes, nat_cmp-IsAntisymmetric, nat_cmp_total}
use Rattle.book_model.proofs.Std.{nat_list_cmp_total, on_total, sum_by-cons, sum_by_push, then_total}
use Rattle.book_model.proofs.Lemmas.{SumsAlike, members-empty, members-with, set_of-alike}
use Rattle.book_model.specs.Words.{by_bytes, by_shift, members, set_of, shifts_of}
use Rattle.book_reports.specs.BillTariffs.{with_shifts}

-- the order of shifts is total
pub by_shift_total : IsTotalOrder by_shift
by_shift_total =
    then_total (on_total (λ (shift : Shift). shift.name) nat_list_cmp_total)
    (on_total (λ (shift : Shift). shift.percent) nat_cmp_total)

-- and keeps all shifts apart
pub by_shift_exact : finite.IsAntisymmetric by_shift
by_shift_exact a b tied =
    let exact = exact_pairs by_bytes _ exact_bytes nat_cmp-IsAntisymmetric in
    let made : List ℕ × ℕ → Shift = λ t. record { name = t.0; percent = t.1 } in
    ap made (exact (a.name, a.percent) (b.name, b.percent) tied)

-- one more joins the others in its place
one_more : (shifts : List Shift) (last : Shift)
    → members (set_of by_shift (shifts ++ last ∷ []))
    ≡ insert_key by_shift (members (set_of by_shift shifts)) last
one_more shifts last =
    let alike : SumsAlike (shifts ++ last ∷ []) (last ∷ shifts) = record {
      sums = λ f.
          let behind = sum_by_push f shifts last in
          let front = sum_by-cons f last shifts in
          omega arith;
    } in
    ap members (set_of-alike by_shift_total by_shift_exact alike)
    ∙ members-with by_shift_total (set_of by_shift shifts) last

abbrev shift_of : ShiftRule → Shift
shift_of rule = rule.shift

-- those of rules join the others
joined : (shifts : List Shift) (rules : List ShiftRule)
    → with_shifts (members (set_of by_shift shifts)) rules
    ≡ members (set_of by_shift (shifts ++ map shift_of rules))
joined shifts [] = ap (λ all. members (set_of by_shift all)) (sym (append-nil shifts))
joined shifts (rule ∷ rules) =
    ap (λ keys. with_shifts keys rules) (sym (one_more shifts rule.shift))
    ∙ joined (shifts ++ rule.shift ∷ []) rules
    ∙ ap (λ all. members (set_of by_shift all))
    (append_assoc shifts (rule.shift ∷ []) (map shift_of rules))

-- so BASE, and then those of its rules, are the shifts of a tariff
pub all_shifts : (terms : Terms) (none base all : List Shift) → none ≡ []
    → base ≡ insert_key by_shift none base_shift → all ≡ with_shifts base terms.shifts
    → all ≡ shifts_of terms
all_shifts terms none base all empty first later =
    let with_base : base ≡ members (set_of by_shift (base_shift ∷ [])) =
    first ∙ ap (λ keys. insert_key by_shift keys base_shift) (empty ∙ sym (members-empty by_shift))
    ∙ sym (one_more [] base_shift) in
    later ∙ ap (λ keys. with_shifts keys terms.shifts) with_base
    ∙ joined (base_shift ∷ []) terms.shifts
