-- The amounts of rows balance with what periods add and take back.
use Rattle.std.proofs.Common.{◌≡◌, ℕ, ◌+◌, List, [], ◌∷◌, refl, ap, ◌∙◌, true, true≢false, None}
use Rattle.std.proofs.Common.{Option, arith, sum_by, ℤ}
use Rattle.book_model.proofs.Std.{list_any, option_map_or}
use Rattle.book_model.specs.Words.{Book, Period, period_by, book_after, Records, rows_for, Rulings}
use Rattle.book_model.specs.Words.{prices, price_in, has, members, total_of, all_periods}
use Rattle.book_model.specs.Words.{charged_of, AreDatedThrough}
use Rattle.book_model.proofs.Lemmas.{is, is_first, sum_by-plus, sum_by-filter_map}
use Rattle.table_model.specs.Readable.{IsChain}
use Rattle.book_laws.specs.PeriodAmounts.{rows_amount, added_cost, reversed_cost}
use Rattle.book_laws.specs.HistoryLaws.{ConservedInSets}
use Rattle.book_laws.proofs.LinkedLemmas.{linked_after}
use Rattle.book_laws.proofs.PeriodLemmas.{net, all_nets}
use Rattle.book_laws.proofs.RowSums.{sum_by-rows_of}
use Rattle.book_laws.proofs.SetSums.{over, one_period}
use Rattle.std.specs.FinMap as map

-- a set that has no record has no member
no_members : (records : Records) → ((bytes : List ℕ) → has records bytes ≡ true → ⊥)
    → members records ≡ []
no_members records none = by_members (members records) refl
  where
    by_members : (ks : List (List ℕ)) → members records ≡ ks → members records ≡ []
    by_members [] same = same
    by_members (k ∷ ks) same =
        absurd (none k
        (map.contains_key-keys records k ∙ ap (list_any (is k)) same ∙ is_first k ks))

module _ (rulings : Rulings) where
  -- what a record costs, or nothing
  abbrev worth : List ℕ → ℕ
  worth bytes = option_map_or (λ priced. priced.amount) (price_in rulings bytes) 0

  -- what a set costs is the sum of what its members cost
  total_over : (records : Records) → total_of rulings records ≡ over worth records
  total_over records = sum_by-filter_map (λ priced. priced.amount) (price_in rulings)
      (members records)

  -- before the first close nothing is charged, and that costs nothing
  total_none : (records : Records) → AreDatedThrough None records → total_of rulings records ≡ 0
  total_none records dated =
      total_over records
      ∙ ap (sum_by worth) (no_members records (λ bytes there. true≢false (dated bytes there)))

  -- what the rows and plus lines of a period add up to, and its minus lines
  abbrev given : Period → ℕ
  given period =
      sum_by (λ row. row.amount) (rows_for rulings period.counted) + total_of rulings period.added

  abbrev taken : Period → ℕ
  taken period = total_of rulings period.taken

  -- one period
  period_balances : (last : Option ℤ) (before charged : Records) → AreDatedThrough last before
      → given (period_by last before charged) + total_of rulings before
      ≡ total_of rulings charged + taken (period_by last before charged)
  period_balances last before charged old =
      let period : Period = period_by last before charged in
      let rows = sum_by-rows_of (prices rulings period.counted) ∙ total_over period.counted in
      let added = total_over period.added in
      let taken = total_over period.taken in
      let stood = total_over before in
      let stands = total_over charged in
      let balance = one_period worth last before charged old in
      omega arith

  -- all periods of a book that is linked
  pub all_balance : (book : Book) → IsChain book
      → rows_amount rulings (all_periods book) + added_cost rulings (all_periods book)
      ≡ total_of rulings (charged_of book) + reversed_cost rulings (all_periods book)
  all_balance book linked =
      let periods : List Period = all_periods book in
      let both =
      sum_by-plus
      (λ (period : Period). sum_by (λ row. row.amount) (rows_for rulings period.counted))
      (λ period. total_of rulings period.added) periods in
      let all = all_nets given taken (total_of rulings) total_none period_balances book linked in
      omega arith

-- the law
pub conserved_in_sets : ConservedInSets
conserved_in_sets rulings history =
    let book : Book = book_after history in
    let periods : List Period = all_periods book in
    net (rows_amount rulings periods + added_cost rulings periods) (reversed_cost rulings periods)
    (total_of rulings (charged_of book)) (all_balance rulings book (linked_after history))
