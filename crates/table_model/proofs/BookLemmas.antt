-- The book is read back from its tables.
use Rattle.std.proofs.Common.{◌≡◌, ℕ, zero, suc, List, [], ◌∷◌, ◌++◌, length, refl, sym, ap, ◌∙◌}
use Rattle.std.proofs.Common.{true, false, Some, arith, ◌<◌, ◌≤◌, nat_lt, slice_get, ℤ}
use Rattle.std.proofs.Common.{length-append}
use Rattle.book_model.proofs.Std.{values, nat_tests}
use Rattle.book_model.specs.Words.{Book, all_periods, open_period, is_dated_after, Period}
use Rattle.book_model.specs.Words.{period_by, Records, Naming, those}
use Rattle.book_model.proofs.Lemmas.{slice_get-front, slice_get-behind}
use Rattle.book_model.proofs.StepLemmas.{same_book}
use Rattle.table_model.specs.Words.{Tables, tables_of, close_after, charged_before, period_in}
use Rattle.table_model.specs.Words.{past_in, book_in, IsReadable, chained}
use Rattle.table_model.specs.ReadingLaws.{BookFollows, TablesDetermine}
use Rattle.table_model.proofs.ChoiceReading.{choices_back}
use Rattle.table_model.proofs.LineSides.{added_back, taken_back}
use Rattle.table_model.proofs.RecordReading.{held_back, posted_back}
use Rattle.table_model.proofs.UnderNumbers.{values-numbers}
use Rattle.table_model.proofs.RulingsReading.{adopted_back, tariffs_back}
use Rattle.table_model.proofs.ReplacedChanges.{replaced_back}
use Rattle.table_model.proofs.SetReading.{before_back}
use Rattle.table_model.specs.Journaled.{IsJournaled}
use Rattle.table_model.proofs.JournalReading.{journal_back}

module _ (closes : List ℤ) (charged : ℕ → Records) where
  -- the period after this many closes
  abbrev pub link : ℕ → Period
  link k = period_by (close_after k closes) (charged k) (charged (suc k))

  -- there are this many periods
  chained-length : (n : ℕ) → length (chained n closes charged) ≡ n
  chained-length zero = refl
  chained-length (suc n) =
      let rest = chained-length n in
      let all = length-append (chained n closes charged) (link n ∷ []) in
      omega arith

  -- each at its place
  chained-at : (n k : ℕ) → k < n → slice_get (chained n closes charged) k ≡ Some (link k)
  chained-at zero k within = absurd (omega arith)
  chained-at (suc n) k within =
      let long = chained-length n in
      elim (nat_lt k n) as (λ b. nat_lt k n ≡ b
      → slice_get (chained n closes charged ++ link n ∷ []) k ≡ Some (link k)) [
        | true ↦ λ less.
            let early : k < n = grind (arith, nat_tests) in
            let inside : k < length (chained n closes charged) = omega arith in
            slice_get-front (chained n closes charged) (link n) k inside ∙ chained-at n k early
        | false ↦ λ not_less.
            let last : length (chained n closes charged) ≡ k = grind (arith, nat_tests) in
            let same : n ≡ k = omega arith in
            ap (slice_get (chained n closes charged ++ link n ∷ [])) (sym last)
            ∙ slice_get-behind (chained n closes charged) (link n)
            ∙ ap (λ m. Some (link m)) same
      ] refl

module _ (naming : Naming) (book : Book) (whole : IsReadable naming book) where
  -- its tables
  abbrev tables : Tables
  tables = tables_of naming book

  -- the days of its closes
  abbrev days : List ℤ
  days = book.rulings.closes

  -- what they charged
  abbrev charged : ℕ → Records
  charged = whole.past.charged

  -- the period after this many closes is one of the book,
  pub its_place : (k : ℕ) → k < length days
      → slice_get (all_periods book) k ≡ Some (link days charged k)
  its_place k within =
      let count = whole.sound.closed in
      let inside : k < length book.past = omega arith in
      slice_get-front book.past (open_period book) k inside
      ∙ ap (λ periods. slice_get periods k) whole.past.past
      ∙ chained-at days charged (length days) k within

  -- and it is read back
  period_back : (k : ℕ) → k < length days
      → period_in (suc k) (close_after k (values tables.closes)) (charged (suc k)) tables
      ≡ link days charged k
  period_back k within =
      let there = its_place k within in
      λ i. record {
        counted = those (is_dated_after (close_after k (values-numbers days i))) (charged (suc k));
        added =
            added_back naming book whole.sound whole.lines k (link days charged k) there i;
        taken =
            taken_back naming book whole.sound whole.lines k (link days charged k) there i;
      }

  -- so are the first periods, from what the last of them charged,
  past_back : (k : ℕ) → k ≤ length days
      → past_in k (charged k) tables ≡ chained k days charged
  past_back zero came = refl
  past_back (suc k) came =
      let period = period_back k (omega arith) in
      let before = ap (λ p. charged_before p (charged (suc k))) period
      ∙ before_back (close_after k days) (charged k) (charged (suc k))
      (whole.past.dated k (omega arith)) in
      (λ i. past_in k (before i) tables ++ period i ∷ [])
      ∙ ap (λ periods. periods ++ link days charged k ∷ []) (past_back k (omega arith))

  -- the rulings, whatever the journal
  pub rulings_back : (book_in tables).rulings ≡ book.rulings
  rulings_back =
      let closes = values-numbers days in
      let tariffs = tariffs_back book.rulings.tariffs whole.rising whole.texts in
      let choices = choices_back naming book whole.sound whole.lines.framed in
      λ i. record {
        tariffs = tariffs i;
        closes = closes i;
        choices = choices i;
        adopted = adopted_back book.rulings book.held i;
        replaced = replaced_back book.rulings.replaced whole.replaced i;
        credits = values-numbers book.rulings.credits i;
      }

  -- and the book
  read_back : IsJournaled book → book_in tables ≡ book
  read_back journaled =
      let closes = values-numbers days in
      let posted = posted_back naming book whole.sound whole.lines.framed in
      same_book rulings_back
      (held_back naming book whole.sound whole.lines.framed)
      posted
      ((λ i. past_in (length (closes i)) (posted i) tables)
      ∙ ap (λ charged. past_in (length days) charged tables) whole.past.posted
      ∙ past_back (length days) (omega arith) ∙ sym whole.past.past)
      (journal_back naming book whole.sound whole.lines journaled)

-- the law
pub book_follows : BookFollows
book_follows naming book whole journaled = read_back naming book whole journaled

-- so the tables determine the book
pub tables_determine : TablesDetermine
tables_determine naming one other whole too one_journal other_journal same =
    sym (book_follows naming one whole one_journal) ∙ ap book_in same
    ∙ book_follows naming other too other_journal
