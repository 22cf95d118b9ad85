-- A record is charged once net, or nets to nothing.
use Rattle.std.proofs.Common.{◌≡◌, ℕ, ◌+◌, ◌≤◌, List, refl, ap, ◌∙◌, true, false, true≢false, Bool}
use Rattle.std.proofs.Common.{not, ◌&&◌, arith, ℤ, pos, None, Option, sum_by}
use Rattle.book_model.proofs.Std.{false_from_ne_true}
use Rattle.book_model.specs.Words.{Book, Period, period_by, is_dated_after, book_after, Records}
use Rattle.book_model.specs.Words.{has, without, all_periods, charged_of, AreDatedThrough}
use Rattle.book_model.proofs.Lemmas.{has_those, sum_by-plus}
use Rattle.book_laws.specs.NetCounts.{one_if, times_counted, times_added, times_reversed, net_count}
use Rattle.book_laws.specs.NetCounts.{NamesOnce}
use Rattle.table_model.specs.Readable.{IsChain}
use Rattle.book_laws.specs.HistoryLaws.{BooksChargeOnce, ChargedOnce, PostedOnce, NamedOnce}
use Rattle.book_laws.proofs.LinkedLemmas.{linked_after}
use Rattle.book_laws.proofs.PeriodLemmas.{net, past_nets, all_nets, all_hold}

-- A record is charged before a period or not, at its end or not, and dated after the close before
-- it or not: its row, plus line and minus line make the difference.
by_cases : (before now late : Bool) → (before ≡ true → late ≡ false)
    → (one_if (late && now) + one_if (not late && (not before && now))) + one_if before
    ≡ one_if now + one_if (not now && before)
by_cases true now true old = absurd (true≢false (old refl))
by_cases true true false old = refl
by_cases true false false old = refl
by_cases false true true old = refl
by_cases false true false old = refl
by_cases false false true old = refl
by_cases false false false old = refl

-- whether a record is among those charged that were not charged before
pub has_without : (records others : Records) (bytes : List ℕ)
    → has (without records others) bytes ≡ (not (has others bytes) && has records bytes)
has_without records others bytes = has_those (λ b. not (has others b)) records bytes

module _ (last : Option ℤ) (before charged : Records) (bytes : List ℕ) where
  -- whether a period counts the record, by whether it is dated after the close before the period
  pub in_counted : has (period_by last before charged).counted bytes
      ≡ (is_dated_after last bytes && has charged bytes)
  in_counted = has_those (is_dated_after last) charged bytes

  -- and whether the period adds it
  pub in_added : has (period_by last before charged).added bytes
      ≡ (not (is_dated_after last bytes) && (not (has before bytes) && has charged bytes))
  in_added =
      has_those (λ b. not (is_dated_after last b)) (without charged before) bytes
      ∙ ap (λ b. not (is_dated_after last bytes) && b) (has_without charged before bytes)

module _ (bytes : List ℕ) where
  -- how often a period charges the record, and how often it reverses it
  abbrev given : Period → ℕ
  given period = one_if (has period.counted bytes) + one_if (has period.added bytes)

  abbrev taken : Period → ℕ
  taken period = one_if (has period.taken bytes)

  -- one period
  one_period : (last : Option ℤ) (before charged : Records) → AreDatedThrough last before
      → given (period_by last before charged) + one_if (has before bytes)
      ≡ one_if (has charged bytes) + taken (period_by last before charged)
  one_period last before charged old =
      let row = ap one_if (in_counted last before charged bytes) in
      let plus = ap one_if (in_added last before charged bytes) in
      let minus = ap one_if (has_without before charged bytes) in
      let cases =
      by_cases (has before bytes) (has charged bytes) (is_dated_after last bytes) (old bytes) in
      omega arith

  -- before the first close no record is charged
  none : (records : Records) → AreDatedThrough None records → one_if (has records bytes) ≡ 0
  none records dated =
      ap one_if
      (false_from_ne_true (has records bytes) (λ there. true≢false (dated bytes there)))

  -- if periods give what is charged and what they take, the record is charged once net, or
  -- nets to nothing
  net_of : (periods : List Period) (charged : Records)
      → sum_by given periods ≡ one_if (has charged bytes) + sum_by taken periods
      → net_count periods bytes ≡ pos (one_if (has charged bytes))
  net_of periods charged nets =
      let both =
      sum_by-plus (λ (period : Period). one_if (has period.counted bytes))
      (λ period. one_if (has period.added bytes)) periods in
      net (times_counted periods bytes + times_added periods bytes) (times_reversed periods bytes)
      (one_if (has charged bytes)) (omega arith)

  -- so it is over all periods of a book that is linked
  pub linked_nets : (book : Book) → IsChain book
      → net_count (all_periods book) bytes ≡ pos (one_if (has (charged_of book) bytes))
  linked_nets book linked =
      net_of (all_periods book) (charged_of book)
      (all_nets given taken (λ records. one_if (has records bytes)) none one_period book linked)

  -- and over its closed periods
  past_net : (book : Book) → IsChain book
      → net_count book.past bytes ≡ pos (one_if (has book.posted bytes))
  past_net book linked =
      net_of book.past book.posted
      (past_nets given taken (λ records. one_if (has records bytes)) none one_period book linked)

-- the law, of histories
pub charged_once : ChargedOnce
charged_once history bytes = linked_nets bytes (book_after history) (linked_after history)

-- and of books that can be read back
pub books_charge_once : BooksChargeOnce
books_charge_once naming book bytes whole = linked_nets bytes book whole.past

-- the same for the closed periods
pub posted_once : PostedOnce
posted_once history bytes = past_net bytes (book_after history) (linked_after history)

-- at most one of the three
one_of : (before now late : Bool)
    → one_if (late && now) + one_if (not late && (not before && now)) + one_if (not now && before) ≤
    1
one_of true true true = omega arith
one_of true true false = omega arith
one_of true false true = omega arith
one_of true false false = omega arith
one_of false true true = omega arith
one_of false true false = omega arith
one_of false false true = omega arith
one_of false false false = omega arith

-- a period does at most one of the three
names_once : (last : Option ℤ) (before charged : Records)
    → NamesOnce (period_by last before charged)
names_once last before charged bytes =
    let row = ap one_if (in_counted last before charged bytes) in
    let plus = ap one_if (in_added last before charged bytes) in
    let minus = ap one_if (has_without before charged bytes) in
    let cases = one_of (has before bytes) (has charged bytes) (is_dated_after last bytes) in
    omega arith

-- the law
pub named_once : NamedOnce
named_once history = all_hold NamesOnce names_once history
