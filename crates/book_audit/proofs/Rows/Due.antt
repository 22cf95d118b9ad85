-- How many records are due by each entry of the journal: where one came by it, where none is due any
-- more, and by what the entries say.
use Rattle.std.proofs.Common.{◌≡◌, ◌∙◌, ◌+◌, ◌<◌, ◌≤◌, ◌==◌, ◌++◌, ◌∷◌, [], ℕ, zero, suc, List}
use Rattle.std.proofs.Common.{Some, ap, append_assoc, arith, cond, eq-eqb, eqb-true, inl, inr}
use Rattle.std.proofs.Common.{length, length-append, refl, slice_index_or, slice_set, subst, sym}
use Rattle.std.proofs.Common.{true≢false, get_or-set_same, get_or-set_other}
use Rattle.std.specs.List.{list_all}
use Rattle.std.proofs.lemmas.Bool.{cases_Bool}
use Rattle.book_model.proofs.Std.{AllByRecursion}
use Rattle.book_model.proofs.Lemmas.{first_of, second_of}
use Rattle.table_model.specs.Tables.{JournalRow}
use Rattle.table_model.specs.Words.{under_numbers}
use Rattle.book_audit.specs.Came.{AreAllThere, TakesOne, due_by}
use Rattle.book_audit.specs.Journal.{kept_by_each, kept_in}

-- by another number as many are due as before,
stays_due : (old : List ℕ) (at left n : ℕ) → (n ≡ at + 1 → ⊥)
    → due_by old n ≡ due_by (slice_set old at left) n
stays_due old at left zero other = refl
stays_due old at left (suc m) other =
    sym (get_or-set_other old at m left 0 (λ same. other (omega (arith, same))))

-- and one fewer by the entry that a record came by
pub one_fewer : (old : List ℕ) (number at left : ℕ) → number ≡ at + 1 → at < length old
    → slice_index_or old at 0 ≡ left + 1 → TakesOne old (slice_set old at left) (Some number)
one_fewer old number at left is inside stood n =
    let new : List ℕ = slice_set old at left in
    elim (cases_Bool (number == n)) [
      | inl tied ↦
          let equal : number ≡ n = eqb-true number n tied in
          let same : n ≡ suc at = omega (arith, equal, is) in
          let here : due_by new n ≡ left =
          ap (due_by new) same ∙ get_or-set_same old at left 0 inside in
          ap (due_by old) same ∙ stood ∙ ap (λ m. m + 1) (sym here)
          ∙ ap (λ b. due_by new n + cond b 1 0) (sym tied)
      | inr apart ↦
          let other : n ≡ at + 1 → ⊥ =
          λ same. true≢false (sym (eq-eqb number n (is ∙ sym same)) ∙ apart) in
          let stays : due_by old n ≡ due_by new n = stays_due old at left n other in
          let none : cond (number == n) 1 0 ≡ 0 = ap {B = ℕ} (λ b. cond b 1 0) apart in
          omega (arith, stays, none)
    ]

-- where none is due, none is by any number
none_at : (left : List ℕ) → AreAllThere left → (at : ℕ) → slice_index_or left at 0 ≡ 0
none_at [] all zero = refl
none_at [] all (suc at) = refl
none_at (n ∷ left) all zero =
    eqb-true n 0 (first_of (n == 0) (list_all (λ m. m == 0) left) all)
none_at (n ∷ left) all (suc at) =
    none_at left (second_of (n == 0) (list_all (λ m. m == 0) left) all) at

pub none_due : (left : List ℕ) → AreAllThere left → (number : ℕ) → due_by left number ≡ 0
none_due left all zero = refl
none_due left all (suc at) = none_at left all at

-- a number by which some are due is that of an entry
pub due_inside : (due : List ℕ) (number : ℕ) → 0 < due_by due number
    → (0 < number) × (number ≤ length due)
due_inside [] zero some = absurd (omega (arith, some))
due_inside [] (suc at) some = absurd (omega (arith, some))
due_inside (n ∷ due) zero some = absurd (omega (arith, some))
due_inside (n ∷ due) (suc zero) some = (omega arith, omega arith)
due_inside (n ∷ due) (suc (suc at)) some =
    let within = (due_inside due (suc at) some).1 in
    (omega arith, omega (arith, within))

-- what stands behind others
at_front : (front : List ℕ) (k : ℕ) (rest : List ℕ)
    → slice_index_or (front ++ k ∷ rest) (length front) 0 ≡ k
at_front [] k rest = refl
at_front (x ∷ front) k rest = at_front front k rest

-- by the number of an entry as many are due as it says
each_due : (all front : List ℕ) (entries : List JournalRow) → all ≡ front ++ kept_by_each entries
    → AllByRecursion (λ (one : ℕ × JournalRow). due_by all one.0 ≡ kept_in one.1.act)
    (under_numbers (suc (length front)) entries)
each_due all front [] is = tt
each_due all front (entry ∷ entries) is =
    let kept : ℕ = kept_in entry.act in
    let more = length-append front (kept ∷ []) in
    let long : length (front ++ kept ∷ []) ≡ suc (length front) = omega (arith, more) in (
      ap (λ (numbers : List ℕ). slice_index_or numbers (length front) 0) is
          ∙ at_front front kept (kept_by_each entries),
      subst (λ n. AllByRecursion (λ (one : ℕ × JournalRow). due_by all one.0 ≡ kept_in one.1.act)
          (under_numbers (suc n) entries)) long
          (each_due all (front ++ kept ∷ []) entries
          (is ∙ sym (append_assoc front (kept ∷ []) (kept_by_each entries)))),
    )

pub as_many_due : (due : List ℕ) (entries : List JournalRow) → due ≡ kept_by_each entries
    → AllByRecursion (λ (one : ℕ × JournalRow). due_by due one.0 ≡ kept_in one.1.act)
    (under_numbers 1 entries)
as_many_due due entries is = each_due due [] entries is
