-- The tables of a book that can be read back have as many charge rows and lines as its periods.
use Rattle.std.proofs.Common.{◌≡◌, ◌∙◌, ◌+◌, ◌∷◌, [], ℕ, suc, List, All, Bool, T, true, false, ap}
use Rattle.std.proofs.Common.{arith, filter, length, length-append, map, refl, slice_index_or}
use Rattle.std.proofs.Common.{sum_by, sym, Ordering}
use Rattle.book_model.proofs.Std.{IsTotalOrder, IsAntisymmetric, entries, from_entries, is_sorted}
use Rattle.book_model.proofs.Std.{AllByRecursion, nat_list_cmp_total, length-map}
use Rattle.book_model.proofs.Std.{recursion_from_All, length_permutation, sum_by-cons, exact_bytes}
use Rattle.book_model.specs.Words.{Book, Naming, Period, all_periods, by_bytes, by_key, members}
use Rattle.book_model.specs.Words.{name_of, prices, rows_for}
use Rattle.book_model.specs.declared.row.ChargeRow.{ChargeRow}
use Rattle.book_model.specs.declared.row.RowKey.{RowKey}
use Rattle.book_model.proofs.Lemmas.{Apart, by_key_exact, by_key_total}
use Rattle.book_model.proofs.FilterLemmas.{filter-from_entries}
use Rattle.table_model.specs.Words.{by_period, numbered, under, IsReadable, day_entries}
use Rattle.table_model.specs.Words.{line_entries, row_key, signed_names, tables_of}
use Rattle.table_model.proofs.DayChanges.{days-sorted}
use Rattle.table_model.proofs.HeldPeriods.{all_apart, all_held}
use Rattle.table_model.proofs.LineNames.{lines_apart}
use Rattle.table_model.proofs.NumberedLemmas.{by_period_exact, by_period_total}
use Rattle.table_model.proofs.PeriodReading.{find-at}
use Rattle.tree_rows.proofs.Maps.{first, second}
use Rattle.tree_rows.proofs.Taking.{find_above}
use Rattle.book_audit.specs.Counts.{lines_in, rows_in}
use Rattle.book_audit.proofs.Held.Maps.{all_pass}

-- a map has as many entries as the list that made it, if no two of these have one key
as_many : {K V : Type 0} {R : K → K → Ordering} → IsTotalOrder R → IsAntisymmetric R
    → (es : List (K × V)) → Apart R es → length (entries (from_entries {R = R} es)) ≡ length es
as_many {K = K} {V = V} {R = R} total exact es apart =
    let made : List (K × V) = entries (from_entries {R = R} es) in
    ap length (sym (all_pass made))
    ∙ sym (length_permutation (filter (λ (e : K × V). true) made) (filter (λ (e : K × V). true) es)
    (filter-from_entries total exact (λ (e : K × V). true) es apart))
    ∙ ap length (all_pass es)

-- no two entries in order have one key
in_order : {K V : Type 0} (R : K → K → Ordering) (es : List (K × V)) → T (is_sorted R es) → Apart R es
in_order R [] rising = tt
in_order R (e ∷ es) rising =
    (find_above R e.0 es (first _ _ rising), in_order R es (second _ _ rising))

module _ {K V X : Type 0} (R : K → K → Ordering) (its : X → List (K × V)) where
  -- rows of a period have other keys than those of later ones,
  before_later : (n : ℕ) (rows : List (K × V)) (later : List (List (K × V))) → Apart R rows
      → Apart (by_period R) (numbered (suc n) later) → Apart (by_period R) (numbered n (rows ∷ later))
  before_later n [] later own others = others
  before_later n (row ∷ rows) later own others =
      let number : n ≡ n + 0 = omega arith in (
        find-at R (n, row.0) n 0 (rows ∷ later) rows refl number ∙ own.0,
        before_later n rows later own.1 others,
      )

  -- so those of all periods are apart if those of each are
  numbered_apart : (n : ℕ) (xs : List X) → AllByRecursion (λ x. Apart R (its x)) xs
      → Apart (by_period R) (numbered n (map its xs))
  numbered_apart n [] apart = tt
  numbered_apart n (x ∷ xs) apart =
      before_later n (its x) (map its xs) apart.0 (numbered_apart (suc n) xs apart.1)

  module _ (count : X → ℕ) (each : (x : X) → length (its x) ≡ count x) where
    -- they are as many as those of each together,
    numbered_many : (n : ℕ) (xs : List X) → length (numbered n (map its xs)) ≡ sum_by count xs
    numbered_many n [] = refl
    numbered_many n (x ∷ xs) =
        let placed : K × V → (ℕ × K) × V = λ row. ((n, row.0), row.1) in
        length-append (under n (its x)) (numbered (suc n) (map its xs))
        ∙ (λ i. (length-map (its x) placed ∙ each x) i + numbered_many (suc n) xs i)
        ∙ sym (sum_by-cons count x xs)

    -- and so are the rows of their table
    table_many : IsTotalOrder R → IsAntisymmetric R → (xs : List X) → All (λ x. Apart R (its x)) xs
        → length (entries (from_entries {R = by_period R} (numbered 1 (map its xs))))
        ≡ sum_by count xs
    table_many total exact xs apart =
        as_many (by_period_total R total) (by_period_exact R exact) (numbered 1 (map its xs))
        (numbered_apart 1 xs (recursion_from_All (λ (x : X). Apart R (its x)) xs apart))
        ∙ numbered_many 1 xs

module _ (naming : Naming) (book : Book) (readable : IsReadable naming book) where
  row_each : (period : Period) → length (day_entries book.rulings period) ≡ rows_in book period
  row_each period =
      let keyed : ChargeRow → RowKey × ChargeRow = λ row. (row_key row, row) in
      length-map (rows_for book.rulings period.counted) keyed

  pub rows_many : length (entries (tables_of naming book).days) ≡ sum_by (rows_in book) (all_periods book)
  rows_many =
      table_many by_key (day_entries book.rulings) (rows_in book) row_each by_key_total by_key_exact
      (all_periods book) (λ k any within.
      let period : Period = slice_index_or (all_periods book) k any in
      in_order by_key (day_entries book.rulings period)
      (days-sorted (prices book.rulings period.counted)))

  line_each : (period : Period) → length (line_entries naming period) ≡ lines_in period
  line_each period =
      let signed : Bool → List ℕ → List ℕ × Bool = λ plus bytes. (name_of naming bytes, plus) in
      length-append (signed_names naming true period.added) (signed_names naming false period.taken)
      ∙ (λ i. length-map (members period.added) (signed true) i
      + length-map (members period.taken) (signed false) i)

  pub lines_many : length (entries (tables_of naming book).lines) ≡ sum_by lines_in (all_periods book)
  lines_many =
      table_many by_bytes (line_entries naming) lines_in line_each nat_list_cmp_total exact_bytes
      (all_periods book) (λ k any within.
      lines_apart naming book readable.sound (slice_index_or (all_periods book) k any)
      (all_held naming book readable.sound k any within) (all_apart book readable.lines k any within))
