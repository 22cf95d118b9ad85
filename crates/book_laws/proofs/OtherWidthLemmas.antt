-- The lines of charge rows by another tariff are as long as those of a statement.
use Rattle.std.proofs.Common.{◌≡◌, ◌∙◌, ℕ, ◌≤◌, List, refl, sym, ap, subst, true, false, Bool, Ok}
use Rattle.std.proofs.Common.{Err, arith, All, Some, if◌then◌else◌, nat_lt, sum_by, ltb-false}
use Rattle.std.proofs.lemmas.Map.Views.{All-from_any}
use Rattle.book_model.proofs.Std.{eq_by_cmp_equiv, nat_list_cmp_total, All-map}
use Rattle.book_model.specs.declared.fault.LedgerFault.TheVariants.{Full}
use Rattle.book_model.specs.Words.{Priced, Book, IsPriced, Naming, Period, Terms, costs_under, has}
use Rattle.book_model.specs.Words.{members, most_cost, period_of, price_by, prices, rows_if_room}
use Rattle.book_model.specs.Words.{rows_of, what_if_answer, what_if_outcome}
use Rattle.book_model.proofs.Lemmas.{length-sum_by}
use Rattle.table_model.specs.Words.{IsReadable}
use Rattle.book_laws.specs.StatementWidths.{AreAligned, WhatIfsAreAligned}
use Rattle.book_laws.proofs.OtherPriceLemmas.{answered_rows, counted_held}
use Rattle.book_laws.proofs.OtherWorkLemmas.{IsWork, same_sums}
use Rattle.book_laws.proofs.WidthLemmas.{FitTogether, are_even, held_fit}
use Rattle.book_laws.proofs.Words.{ChargeRow, some_within}
use Rattle.std.specs.FinMap as fin

-- what has rows costs no more than books hold
cost_within : (costs : List Priced) (rows : List ChargeRow) → rows_if_room costs ≡ Ok rows
    → sum_by (λ one. one.amount) costs ≤ most_cost
cost_within costs rows is = under (nat_lt most_cost (sum_by (λ one. one.amount) costs)) refl is
  where
    under : (dear : Bool) → nat_lt most_cost (sum_by (λ one. one.amount) costs) ≡ dear
        → (if dear then Err Full else Ok (rows_of costs)) ≡ Ok rows
        → sum_by (λ one. one.amount) costs ≤ most_cost
    under true dear is = cc is
    under false dear is =
        let below = ltb-false most_cost (sum_by (λ (one : Priced). one.amount) costs) dear in
        omega arith

module _ (naming : Naming) (book : Book) (number : ℕ) (terms : Terms) (period : Period)
    (rows : List ChargeRow) (whole : IsReadable naming book)
    (there : period_of book number ≡ Some period)
    (answer : (what_if_outcome number terms book).answer ≡ Ok rows) where
  abbrev by_tariff : List Priced
  by_tariff = costs_under terms period.counted

  -- of the work there is no more than of what is held
  work_within : (part : Priced → ℕ) → IsWork part
      → sum_by part by_tariff ≤ sum_by part (prices book.rulings book.held)
  work_within part work =
      subst (λ n. n ≤ sum_by part (prices book.rulings book.held))
      (sym (same_sums naming book number period whole there terms part work))
      (some_within naming book whole part period.counted
      (counted_held naming book number period whole there))

  -- and the cost is no more than books hold, so the sums fit their columns
  others_fit : FitTogether by_tariff
  others_fit =
      let all = held_fit naming book whole in
      let few = all.count_fits in
      let short = all.cpu_fits in
      let small = all.blocks_fit in
      let ones = length-sum_by by_tariff in
      let all_ones = length-sum_by (prices book.rulings book.held) in
      let count = work_within (λ _. 1) (record { same = λ one other bytes. refl }) in
      let cpu = work_within (λ one. one.cpu) (record { same = λ one other bytes. refl }) in
      let blocks = work_within (λ one. one.excp) (record { same = λ one other bytes. refl }) in
      let cost = cost_within by_tariff rows (ap (what_if_answer terms) (sym there) ∙ answer) in
      record {
        count_fits = omega arith;
        cpu_fits = omega arith;
        blocks_fit = omega arith;
        amount_fits = omega arith;
      }

  -- each price is within its limits
  others_priced : ((bytes : List ℕ) → has period.counted bytes ≡ true
      → IsPriced (price_by terms bytes))
      → All IsPriced by_tariff
  others_priced priced =
      All-map IsPriced (price_by terms) (members period.counted)
      (All-from_any (eq_by_cmp_equiv nat_list_cmp_total) (λ bytes. IsPriced (price_by terms bytes))
      (members period.counted)
      (λ bytes among. priced bytes (fin.contains_key-keys period.counted bytes ∙ among)))

-- the law
pub what_ifs_are_aligned : WhatIfsAreAligned
what_ifs_are_aligned naming book number terms period rows whole there priced answer =
    subst AreAligned (answered_rows book number terms period rows there answer)
    (are_even (costs_under terms period.counted)
    (others_priced naming book number terms period rows whole there answer priced)
    (others_fit naming book number terms period rows whole there answer))
