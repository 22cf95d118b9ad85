-- The charge rows of a readable book are those of all records that it counts, each row in the period
-- of its day.
use Rattle.std.proofs.Common.{◌≡◌, ◌∙◌, ℕ, suc, ◌+◌, ◌-◌, ◌≤◌, List, [], ◌∷◌, length, map, refl}
use Rattle.std.proofs.Common.{sym, ap, subst, true, false, true≢false, Bool, cond, Option, Some}
use Rattle.std.proofs.Common.{None, arith, ℤ, ◌==◌, slice_get, is_eq, nat_cmp, Ordering, Less}
use Rattle.std.proofs.Common.{Equal, Greater, option_map, filter_map}
use Rattle.std.specs.Cmp.{nat_cmp_total, tied_itself}
use Rattle.std.specs.FinMap.{find, from_entries, get, get-from_entries, nat_cmp-IsAntisymmetric}
use Rattle.std.specs.FinMap.{same_map}
use Rattle.std.specs.List.Sorted.{IsPermutation}
use Rattle.std.specs.Ordering.{ordering_then}
use Rattle.std.proofs.lemmas.Bool.{eq-eqb, ne_eqb}
use Rattle.std.proofs.lemmas.List.{length-append}
use Rattle.std.proofs.lemmas.List.Sorted.{IsPermutation-map}
use Rattle.std.proofs.lemmas.Map.Views.{tells_apart}
use Rattle.std.proofs.lemmas.Option.{none-some, slice_get_within}
use Rattle.tariff_rules.specs.declared.priced.Priced.{Priced}
use Rattle.book_model.specs.declared.row.ChargeRow.{ChargeRow}
use Rattle.book_model.specs.declared.row.RowKey.{RowKey}
use Rattle.book_model.specs.Words.{Book, Naming, Period, Records, all_periods, by_key, counted_of}
use Rattle.book_model.specs.Words.{day_of, is_dated_in, members, open_period, price_in, prices}
use Rattle.book_model.specs.Words.{rows_of, those}
use Rattle.book_model.proofs.CountedDays.{counted_at}
use Rattle.book_model.proofs.FilterMapLemmas.{map-filter_map}
use Rattle.book_model.proofs.RecordSets.{has_those, same_records}
use Rattle.book_model.proofs.RowLemmas.{by_key_exact, by_key_total, rows_of-alike}
use Rattle.table_model.specs.DisputesRead.{NamedRow}
use Rattle.table_model.specs.PeriodRows.{by_period, numbered}
use Rattle.table_model.specs.Readable.{IsReadable}
use Rattle.table_model.specs.TablesOf.{days_by, row_key, tables_of}
use Rattle.table_model.proofs.CountedReading.{its_period, period_after}
use Rattle.table_model.proofs.DayChanges.{days_at}
use Rattle.table_model.proofs.DetailReading.{in_windows}
use Rattle.table_model.proofs.Finding.{get_numbered}
use Rattle.table_model.proofs.NumberedLemmas.{by_period_exact, by_period_total, is_number}
use Rattle.table_model.proofs.PeriodPlaces.{slice_get-map}
use Rattle.table_model.proofs.PeriodReading.{find-at}
use Rattle.table_model.proofs.PickedRows.{rows-nowhere, rows-where}
use Rattle.table_model.proofs.RecordReading.{entry, entry_at}
use Rattle.table_model.proofs.SetReading.{permuted-alike}
use Rattle.consistent_tables.specs.Consistent.{counted_entries}
use Rattle.consistent_tables.specs.DueRows.{due_entry, period_from}
use Rattle.consistent_tables.proofs.ClosePeriods.{dated_is, least_period, most_period}
use Rattle.consistent_tables.proofs.CountedRows.{rows_counted}

-- ---- rows, each in the period of its day

-- A row's place compares with another by period and by key; where the keys tie, so do the periods of
-- their days with a number, or not.
first_or : {X : Type 0} (own_period by_place period : Ordering) (row later : Option X)
    → (by_place ≡ Equal → own_period ≡ period)
    → cond (is_eq (ordering_then own_period by_place)) row (cond (is_eq period) later None)
    ≡ cond (is_eq period) (cond (is_eq by_place) row later) None
first_or Less Less period row later same = refl
first_or Equal Less period row later same = refl
first_or Greater Less period row later same = refl
first_or Less Greater period row later same = refl
first_or Equal Greater period row later same = refl
first_or Greater Greater period row later same = refl
first_or {X} Less Equal period row later same =
    subst (λ r. cond (is_eq r) later None ≡ cond (is_eq r) row None) (same refl) refl
first_or Equal Equal period row later same =
    subst (λ r. row ≡ cond (is_eq r) row None) (same refl) refl
first_or Greater Equal period row later same =
    subst (λ r. cond (is_eq r) later None ≡ cond (is_eq r) row None) (same refl) refl

-- so a row is found under the period of its day alone
find_due : (closes : List ℤ) (q : ℕ × RowKey) (rows : List ChargeRow)
    → find (by_period by_key) q (map (due_entry closes) rows)
    ≡ cond (is_number q.0 (period_from 1 closes q.1.day))
    (find by_key q.1 (map {B = RowKey × ChargeRow} (λ row. (row_key row, row)) rows)) None
find_due closes q [] = none (is_number q.0 (period_from 1 closes q.1.day))
  where
    none : (b : Bool) → ◌≡◌ {A = Option ChargeRow} None (cond b None None)
    none true = refl
    none false = refl
find_due closes q (row ∷ rows) =
    let own : Ordering = nat_cmp q.0 (period_from 1 closes row.day) in
    ap (cond (is_eq (ordering_then own (by_key q.1 (row_key row)))) (Some row))
    (find_due closes q rows)
    ∙ first_or own (by_key q.1 (row_key row)) (nat_cmp q.0 (period_from 1 closes q.1.day))
    (Some row) (find by_key q.1 (map {B = RowKey × ChargeRow} (λ row. (row_key row, row)) rows))
    (λ tied. ap (λ (key : RowKey). nat_cmp q.0 (period_from 1 closes key.day))
    (sym (by_key_exact q.1 (row_key row) tied)))

-- nothing is there, if nothing can be
pub nothing : {X : Type 0} (found : Option X) → ((x : X) → found ≡ Some x → ⊥) → found ≡ None
nothing None never = refl
nothing (Some x) never = absurd (never x refl)

module _ (naming : Naming) (book : Book) (whole : IsReadable naming book) where
  abbrev closes : List ℤ
  closes = book.rulings.closes

  abbrev counted : Records
  counted = counted_of book

  -- ---- what the counted rows cost

  -- a row has the price of its record
  own_price : (bytes : List ℕ) (price : Option Priced)
      → option_map {T = NamedRow} {U = Priced} (λ row. row.1.priced)
      (option_map {T = Priced} {U = NamedRow} (entry_at naming book whole.sound bytes) price)
      ≡ price
  own_price bytes None = refl
  own_price bytes (Some priced) = refl

  -- so rows have the prices of their records,
  own_prices : (ks : List (List ℕ))
      → map (λ (row : NamedRow). row.1.priced) (filter_map (entry naming book whole.sound) ks)
      ≡ filter_map (price_in book.rulings) ks
  own_prices ks =
      map-filter_map (λ (row : NamedRow). row.1.priced) (entry naming book whole.sound) ks
      ∙ (λ i. filter_map (λ bytes. own_price bytes (price_in book.rulings bytes) i) ks)

  -- and the charge rows of the counted ones are those of what is counted
  rows_due : rows_of (map (λ (row : NamedRow). row.1.priced)
      (counted_entries (tables_of naming book)))
      ≡ rows_of (prices book.rulings counted)
  rows_due =
      let rows : List NamedRow = counted_entries (tables_of naming book) in
      let costs : List Priced = map (λ (row : NamedRow). row.1.priced) rows in
      let ks : List (List ℕ) = members counted in
      rows_of-alike (permuted-alike costs (prices book.rulings counted)
      (subst (IsPermutation costs) (own_prices ks)
      (IsPermutation-map (λ (row : NamedRow). row.1.priced) rows
      (filter_map (entry naming book whole.sound) ks) (rows_counted naming book whole))))

  -- ---- the rows of periods

  abbrev periods : List Period
  periods = all_periods book

  abbrev its_rows : Period → List (RowKey × ChargeRow)
  its_rows = days_by (price_in book.rulings)

  abbrev row_in : RowKey → Records → Option ChargeRow
  row_in key records = find by_key key (days_at (prices book.rulings records))

  -- what a period counts is what is counted and dated in it
  dated_there : (k : ℕ) (period : Period) → slice_get periods k ≡ Some period
      → period.counted ≡ those (is_dated_in book.rulings (suc k)) counted
  dated_there =
      counted_at naming book whole.sound whole.in_order (in_windows naming book whole)

  all_of_them : those (λ bytes. true) counted ≡ counted
  all_of_them =
      same_records (those (λ bytes. true) counted) counted (has_those (λ bytes. true) counted)

  module _ (q : ℕ × RowKey) where
    abbrev own : ℕ
    own = period_from 1 closes q.1.day

    -- what is dated on its day is dated in that period alone
    dated_on : (k : ℕ) → k ≤ length closes → (bytes : List ℕ) → day_of bytes ≡ q.1.day
        → is_dated_in book.rulings (suc k) bytes ≡ (suc k == own)
    dated_on k within bytes on =
        dated_is book.rulings bytes k whole.in_order within
        ∙ ap (λ day. suc k == period_from 1 closes day) on

    -- in that period a place has the row of all that is counted there,
    row_there : q.0 ≡ own → get (tables_of naming book).days q ≡ row_in q.1 counted
    row_there same =
        let least = least_period 1 closes q.1.day in
        let most = most_period 1 closes q.1.day in
        let k : ℕ = own - 1 in
        let number : suc k ≡ own = omega (arith, least) in
        let place : own ≡ 1 + k = omega (arith, least) in
        let within : k ≤ length closes = omega (arith, most) in
        let period : Period = period_after naming book whole k in
        let there = its_period naming book whole k within in
        get-from_entries (by_period_total by_key by_key_total) (numbered 1 (map its_rows periods)) q
        ∙ find-at by_key q 1 k (map its_rows periods) (its_rows period)
        (slice_get-map its_rows periods k period there) (same ∙ place)
        ∙ ap (row_in q.1) (dated_there k period there)
        ∙ rows-where book.rulings counted q.1 (is_dated_in book.rulings (suc k)) (λ bytes. true)
        (λ bytes on. dated_on k within bytes on ∙ eq-eqb (suc k) own number)
        ∙ ap (row_in q.1) all_of_them

    -- and in other periods it has none
    none_there : (q.0 ≡ own → ⊥) → get (tables_of naming book).days q ≡ None
    none_there differ =
        nothing (get (tables_of naming book).days q) (λ row found.
        get_numbered by_key_total its_rows ⊥ periods q row (λ k period there is own_row.
        let inside = slice_get_within periods k period there in
        let long = length-append book.past (open_period book ∷ []) in
        let ended = whole.sound.closed in
        let within : k ≤ length closes = omega (arith, inside, long, ended) in
        let number : q.0 ≡ suc k = omega (arith, is) in
        let none : row_in q.1 period.counted ≡ None =
        ap (row_in q.1) (dated_there k period there)
        ∙ rows-nowhere book.rulings counted q.1 (is_dated_in book.rulings (suc k)) (λ bytes on.
        dated_on k within bytes on
        ∙ ne_eqb (suc k) own (λ same. differ (number ∙ same))) in
        none-some row (sym none ∙ own_row)) found)

    -- as the rows that are due
    row_due : get (tables_of naming book).days q
        ≡ cond (is_number q.0 own) (row_in q.1 counted) None
    row_due =
        elim (is_number q.0 own) as (λ b. is_number q.0 own ≡ b
        → get (tables_of naming book).days q ≡ cond b (row_in q.1 counted) None) [
          | true ↦ λ tied. row_there (tells_apart nat_cmp-IsAntisymmetric q.0 own tied)
          | false ↦ λ apart. none_there (λ same.
              true≢false (sym (ap is_eq (tied_itself nat_cmp_total q.0))
              ∙ ap (is_number q.0) same ∙ apart))
        ] refl

  pub days_due : (tables_of naming book).days
      ≡ from_entries (map (due_entry closes)
      (rows_of (map (λ entry. entry.1.priced) (counted_entries (tables_of naming book)))))
  days_due =
      let total = by_period_total by_key by_key_total in
      let due : List ((ℕ × RowKey) × ChargeRow) =
      map (due_entry closes) (rows_of (prices book.rulings counted)) in
      same_map total (by_period_exact by_key by_key_exact) (tables_of naming book).days
      (from_entries due) (λ q.
      row_due q ∙ sym (find_due closes q (rows_of (prices book.rulings counted)))
      ∙ sym (get-from_entries total due q))
      ∙ ap (λ rows. from_entries (map (due_entry closes) rows)) (sym rows_due)
