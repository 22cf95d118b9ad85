-- The counts of coverage add up to the count of the statement: each record stands on one of the
-- days, and has one of the systems.
use Rattle.std.proofs.Common.{◌≡◌, ◌∙◌, ℕ, zero, suc, ◌+◌, ◌-◌, ◌<◌, ℤ, ◌+ℤ◌, ◌<ℤ◌, pos, Bool, true}
use Rattle.std.proofs.Common.{false, true≢false, not, cond, ◌&&◌, ◌||◌, List, [], ◌∷◌, ◌++◌, length}
use Rattle.std.proofs.Common.{map, refl, sym, ap, subst, arith, Option, Some, None, All, Contains}
use Rattle.std.proofs.Common.{filter, get_or, int_cmp, int_lt, nat_cmp, sum_by}
use Rattle.std.specs.Prelude.{◌≤ℤ◌, flat_map}
use Rattle.std.specs.Cmp.{int_ranked}
use Rattle.std.specs.List.{IsDistinct}
use Rattle.std.specs.List.Sorted.{IsStrictlySortedBy}
use Rattle.std.specs.Ordering.{int_eq, ordering_then}
use Rattle.std.specs.declared.cmp.Ordering.{Ordering}
use Rattle.std.specs.declared.cmp.Ordering.TheVariants.{Equal, Greater, Less}
use Rattle.std.proofs.lemmas.Int.{ints}
use Rattle.std.proofs.lemmas.List.{length-map}
use Rattle.std.proofs.lemmas.List.Elements.{All-from_recursion, recursion_from_All}
use Rattle.std.proofs.lemmas.List.Sums.{sum_by-append, sum_by-cons}
use Rattle.std.proofs.lemmas.Map.Keys.{IsDistinct-from_sorted, sorted_head, sorted_tail}
use Rattle.std.proofs.lemmas.Map.Lookups.{exact_signed}
use Rattle.book_model.proofs.Std.{All-cons, All-head, All-map, All-nil, All-tail, All-weaker}
use Rattle.book_model.proofs.Std.{eq_by_cmp, eq_by_cmp_equiv, false_from_ne_true, fold-map}
use Rattle.book_model.proofs.Std.{int_cmp_total, list_any, list_any_at, nat_list_cmp_total}
use Rattle.book_model.proofs.Std.{nat_list_eq_equiv, tells_apart}
use Rattle.book_model.specs.declared.detail.Detail.{Detail}
use Rattle.book_model.specs.Words.{AreHeld, Book, IsSound, Naming, Period, Priced, all_periods}
use Rattle.book_model.specs.Words.{book_after, by_bytes, by_detail, by_key, charged_at, counted_of}
use Rattle.book_model.specs.Words.{day_of, details_of, has, in_force, is_after, is_between}
use Rattle.book_model.specs.Words.{is_dated_in, is_through, key_of, members, rows_for, rows_of}
use Rattle.book_model.specs.Words.{same_bytes, set_of, those, through_of}
use Rattle.book_model.proofs.DetailLemmas.{details_rise}
use Rattle.book_model.proofs.Lemmas.{any_tied-members, filter-filter, list_any-map, members_rise}
use Rattle.book_model.proofs.Lemmas.{not_true, passes_those, same_bytes-by_cmp, sound_after}
use Rattle.book_model.proofs.Lemmas.{sum_by-filter, sum_by-keys}
use Rattle.book_model.proofs.PricingLemmas.{priced_day}
use Rattle.book_model.proofs.RecordSets.{first_of, second_of}
use Rattle.book_model.proofs.SumsAlike.{length-sum_by}
use Rattle.table_model.proofs.HeldPeriods.{all_held}
use Rattle.coverage_texts.specs.Coverage as cover
use Rattle.coverage_texts.specs.Coverage.{begins_on, coverage_rows, day_of_first, day_of_last}
use Rattle.coverage_texts.specs.Coverage.{day_rows, days_between, days_from, days_of, ends_on}
use Rattle.coverage_texts.specs.Coverage.{systems_of}
use Rattle.coverage_texts.specs.declared.coverage_rows.CoverageRow.{CoverageRow}
use Rattle.coverage_texts.specs.declared.coverage_rows.SystemDetail.{SystemDetail}
use Rattle.coverage_texts.proofs.CoverageLemmas.{days_through}
use Rattle.book_reports.specs.SystemDetails.{on_system}
use Rattle.book_laws.specs.CoverageLaws.{CoverageAddsUp}
use Rattle.book_laws.specs.DetailLaws.{AddUp}
use Rattle.book_laws.proofs.BillLemmas.{of_period}
use Rattle.book_laws.proofs.CountedLemmas.{counted_by_day}
use Rattle.book_laws.proofs.CoverageLemmas.{day_through, each_detail}
use Rattle.book_laws.proofs.DetailLemmas.{details_add_up}
use Rattle.book_laws.proofs.ReadLemmas.{named}
use Rattle.book_laws.proofs.RowSums.{sum_by-rows}
use Rattle.book_laws.proofs.Words.{ChargeRow}
use Rattle.std.specs.FinMap as finite

-- the day of a record and its system
abbrev its_day : SystemDetail → ℤ
its_day one = one.detail.priced.day

abbrev its_system : SystemDetail → List ℕ
its_system one = one.system

-- ---- days are each another

-- an earlier day is not a later one
not_same : (early late : ℤ) → early <ℤ late → int_eq early late ≡ false
not_same early late less =
    false_from_ne_true (int_eq early late)
    (λ same.
    let is = tells_apart exact_signed early late same in
    omega (arith, ints, less, is))

-- nor one of so many from a later one on
none_after : (count : ℕ) (early start : ℤ) → early <ℤ start
    → All (λ day. int_eq early day ≡ false) (days_from start count)
none_after zero early start less = All-nil (λ day. int_eq early day ≡ false)
none_after (suc count) early start less =
    All-cons (λ day. int_eq early day ≡ false) start (days_from (start +ℤ pos 1) count)
    (not_same early start less)
    (none_after count early (start +ℤ pos 1) (omega (arith, ints, less)))

days_apart : (count : ℕ) (first : ℤ) → IsDistinct (eq_by_cmp int_cmp) (days_from first count)
unfolding IsDistinct
days_apart zero first = tt
days_apart (suc count) first = (
  recursion_from_All (λ day. int_eq first day ≡ false) (days_from (first +ℤ pos 1) count)
      (none_after count first (first +ℤ pos 1) (omega (arith, ints))),
  days_apart count (first +ℤ pos 1),
)

between_apart : (first last : Option ℤ) → IsDistinct (eq_by_cmp int_cmp) (days_between first last)
unfolding IsDistinct
between_apart None last = tt
between_apart (Some first) None = tt
between_apart (Some first) (Some last) = days_apart _ first

-- ---- each record stands once

-- a sum over what is made of some elements is one over the elements
sum_flat : {X Y : Type 0} (g : Y → ℕ) (f : X → List Y) (xs : List X)
    → sum_by g (flat_map f xs) ≡ sum_by (λ x. sum_by g (f x)) xs
sum_flat g f [] = refl
sum_flat g f (x ∷ xs) =
    sum_by-append g (f x) (flat_map f xs)
    ∙ ap (λ n. sum_by g (f x) + n) (sum_flat g f xs)
    ∙ sym (sum_by-cons (λ x. sum_by g (f x)) x xs)

module _ (details : List SystemDetail) where
  -- systems are each another
  systems_apart : IsDistinct same_bytes (systems_of details)
  systems_apart =
      subst (λ eq. IsDistinct eq (systems_of details)) (sym same_bytes-by_cmp)
      (IsDistinct-from_sorted by_bytes (systems_of details)
      (members_rise nat_list_cmp_total (set_of by_bytes (map its_system details))))

  -- the counts of a day are of the records of that day
  count_day : (day : ℤ) → sum_by (λ (row : CoverageRow). row.count) (day_rows details day)
      ≡ sum_by (λ _. 1) (filter (λ one. int_eq (its_day one) day) details)
  count_day day =
      let on_day : SystemDetail → Bool = λ one. int_eq (its_day one) day in
      let share : SystemDetail → ℕ = λ one. cond (on_day one) 1 0 in
      let systems : List (List ℕ) = systems_of details in
      let count : (system : List ℕ)
      → length (filter (λ one. on_day one && same_bytes (its_system one) system) details)
      ≡ sum_by share (filter (λ one. same_bytes (its_system one) system) details) =
      λ system.
      let here : List SystemDetail =
      filter (λ one. same_bytes (its_system one) system) details in
      ap length (sym (filter-filter on_day (λ one. same_bytes (its_system one) system) details))
      ∙ length-sum_by (filter on_day here) ∙ sum_by-filter (λ _. 1) on_day here in
      fold-map (λ n (row : CoverageRow). n + row.count)
      (λ system. cover.row_at details (record { day = day; system = system })) 0 systems
      ∙ (λ i. sum_by (λ system. count system i) systems)
      ∙ sum_by-keys nat_list_eq_equiv systems systems_apart its_system share details
      (λ one among.
      (λ i. list_any (same_bytes-by_cmp i (its_system one)) systems)
      ∙ any_tied-members nat_list_cmp_total (map its_system details) (its_system one)
      ∙ (λ i. list_any (sym same_bytes-by_cmp i (its_system one)) (map its_system details))
      ∙ list_any-map (same_bytes (its_system one)) its_system details
      ∙ among)
      ∙ sym (sum_by-filter (λ _. 1) on_day details)

-- a day on which some record is dated is one of the days on which all are
tied_within : (days : List ℤ) (details : List SystemDetail)
    → All (λ one. list_any (int_eq (its_day one)) days ≡ true) details → (x : SystemDetail)
    → list_any (λ y. int_eq (its_day x) (its_day y)) details ≡ true
    → list_any (int_eq (its_day x)) days ≡ true
tied_within days [] all x among = absurd (true≢false (sym among))
tied_within days (one ∷ more) all x among =
    let P : SystemDetail → Type 0 = λ one. list_any (int_eq (its_day one)) days ≡ true in
    elim (int_eq (its_day x) (its_day one)) as (λ b. int_eq (its_day x) (its_day one) ≡ b
    → (b || list_any (λ y. int_eq (its_day x) (its_day y)) more) ≡ true
    → list_any (int_eq (its_day x)) days ≡ true) [
      | true ↦ λ same rest.
          ap (λ day. list_any (int_eq day) days)
          (tells_apart exact_signed (its_day x) (its_day one) same)
          ∙ All-head P one more all
      | false ↦ λ other rest. tied_within days more (All-tail P one more all) x rest
    ] refl among

-- so the counts of all days are of all records
counts_sum : (before through : Option ℤ) (details : List SystemDetail)
    → All (λ one. list_any (int_eq (its_day one)) (days_of before through details) ≡ true) details
    → sum_by (λ (row : CoverageRow). row.count) (coverage_rows before through details)
    ≡ length details
counts_sum before through details within =
    let days : List ℤ = days_of before through details in
    sum_flat (λ (row : CoverageRow). row.count) (day_rows details) days
    ∙ (λ i. sum_by (λ day. count_day details day i) days)
    ∙ sum_by-keys (eq_by_cmp_equiv int_cmp_total) days
    (between_apart (begins_on before (day_of_first details))
    (ends_on through (day_of_last details)))
    its_day (λ _. 1) details (tied_within days details within)
    ∙ sym (length-sum_by details)

-- ---- each record is dated on one of the days

-- details rise by their days
less_day : (a b : Detail) → by_detail a b ≡ Less → a.priced.day ≤ℤ b.priced.day
less_day a b less =
    by (int_cmp a.priced.day b.priced.day)
    (ordering_then (by_bytes a.priced.centre b.priced.centre)
    (by_bytes a.priced.shift b.priced.shift))
    (ordering_then (nat_cmp a.time b.time) (by_bytes a.name b.name)) refl less
  where
    by : (day place more : Ordering) → int_cmp a.priced.day b.priced.day ≡ day
        → ordering_then (ordering_then day place) more ≡ Less → a.priced.day ≤ℤ b.priced.day
    by Less place more is before =
        let earlier = int_ranked a.priced.day b.priced.day Less (sym is) in
        omega (arith, ints, earlier)
    by Equal place more is before =
        let same = exact_signed a.priced.day b.priced.day is in
        omega (arith, ints, same)
    by Greater place more is before = cc

module _ (naming : Naming) (book : Book) where
  abbrev with_system : Detail → SystemDetail
  with_system = on_system naming book

  -- none is dated before the first
  first_bound : (ds : List Detail) → IsStrictlySortedBy by_detail ds → (first : ℤ)
      → day_of_first (map with_system ds) ≡ Some first → All (λ d. first ≤ℤ d.priced.day) ds
  first_bound [] rising first is = All-nil (λ (d : Detail). first ≤ℤ d.priced.day)
  first_bound (d ∷ ds) rising first is =
      let same : d.priced.day ≡ first = cc in
      All-cons (λ (d : Detail). first ≤ℤ d.priced.day) d ds (omega (arith, ints, same))
      (All-weaker (λ e. by_detail d e ≡ Less) (λ (e : Detail). first ≤ℤ e.priced.day)
      (λ e less.
      let later = less_day d e less in
      omega (arith, ints, same, later))
      ds
      (All-from_recursion (λ e. by_detail d e ≡ Less) ds (sorted_head by_detail d ds rising)))

  -- nor any after the last
  last_bound : (ds : List Detail) → IsStrictlySortedBy by_detail ds → (last : ℤ)
      → day_of_last (map with_system ds) ≡ Some last → All (λ d. d.priced.day ≤ℤ last) ds
  last_bound [] rising last is = All-nil (λ (d : Detail). d.priced.day ≤ℤ last)
  last_bound (d ∷ []) rising last is =
      let same : d.priced.day ≡ last = cc in
      All-cons (λ (d : Detail). d.priced.day ≤ℤ last) d [] (omega (arith, ints, same))
      (All-nil (λ (d : Detail). d.priced.day ≤ℤ last))
  last_bound (d ∷ e ∷ more) rising last is =
      let P : Detail → Type 0 = λ d. d.priced.day ≤ℤ last in
      let rest = last_bound (e ∷ more) (sorted_tail by_detail d (e ∷ more) rising) last is in
      let next = less_day d e (sorted_head by_detail d (e ∷ more) rising).0 in
      let its = All-head P e more rest in
      All-cons P d (e ∷ more) (omega (arith, ints, next, its)) rest

  -- there is a last one
  some_last : (d : Detail) (ds : List Detail)
      → (last : ℤ) × (day_of_last (map with_system (d ∷ ds)) ≡ Some last)
  some_last d [] = (d.priced.day, refl)
  some_last d (e ∷ more) = some_last e more

  module _ (before through : Option ℤ) (ds : List Detail)
      (rising : IsStrictlySortedBy by_detail ds)
      (dated : All (λ d. is_between before through d.priced.day ≡ true) ds)
    where
      -- none is dated before the period begins
      lower : (first : ℤ) → begins_on before (day_of_first (map with_system ds)) ≡ Some first
          → All (λ d. first ≤ℤ d.priced.day) ds
      lower first is = by before dated is
        where
          by : (before : Option ℤ) → All (λ d. is_between before through d.priced.day ≡ true) ds
              → begins_on before (day_of_first (map with_system ds)) ≡ Some first
              → All (λ d. first ≤ℤ d.priced.day) ds
          by None dated is = first_bound ds rising first is
          by (Some close) dated is =
              let same : close +ℤ pos 1 ≡ first = cc in
              All-weaker (λ (d : Detail). is_between (Some close) through d.priced.day ≡ true)
              (λ (d : Detail). first ≤ℤ d.priced.day)
              (λ d between.
              let after : int_lt close d.priced.day ≡ true =
              first_of (is_after (Some close) d.priced.day) (is_through through d.priced.day)
              between in
              let later : close <ℤ d.priced.day = grind (arith, ints, after) in
              omega (arith, ints, same, later))
              ds dated

      -- nor any after it ends
      upper : (last : ℤ) → ends_on through (day_of_last (map with_system ds)) ≡ Some last
          → All (λ d. d.priced.day ≤ℤ last) ds
      upper last is = by through dated is
        where
          by : (through : Option ℤ) → All (λ d. is_between before through d.priced.day ≡ true) ds
              → ends_on through (day_of_last (map with_system ds)) ≡ Some last
              → All (λ d. d.priced.day ≤ℤ last) ds
          by None dated is = last_bound ds rising last is
          by (Some close) dated is =
              let same : close ≡ last = cc in
              All-weaker (λ (d : Detail). is_between before (Some close) d.priced.day ≡ true)
              (λ (d : Detail). d.priced.day ≤ℤ last)
              (λ d between.
              let no_later : int_lt close d.priced.day ≡ false =
              not_true (int_lt close d.priced.day)
              (second_of (is_after before d.priced.day)
              (is_through (Some close) d.priced.day) between) in
              let early : d.priced.day ≤ℤ close = grind (arith, ints, no_later) in
              omega (arith, ints, same, early))
              ds dated

      -- so each is dated on one of its days
      on_days : (first last : ℤ)
          → begins_on before (day_of_first (map with_system ds)) ≡ Some first
          → ends_on through (day_of_last (map with_system ds)) ≡ Some last
          → All (λ d. list_any (int_eq d.priced.day)
          (days_of before through (map with_system ds)) ≡ true) ds
      on_days first last begins ends = λ k d inside.
          let day = (get_or ds k d).priced.day in
          let there = day_through first last day (lower first begins k d inside)
          (upper last ends k d inside) in
          let laws = eq_by_cmp_equiv int_cmp_total in
          let days : days_of before through (map with_system ds) ≡ days_through first last =
          λ i. days_between (begins i) (ends i) in
          ap (list_any (int_eq day)) days
          ∙ list_any_at (int_eq day) (days_through first last) there.0 day there.1
          (ap (int_eq day) there.2 ∙ laws.refl day)

  days_hold : (before through : Option ℤ) (ds : List Detail) → IsStrictlySortedBy by_detail ds
      → All (λ d. is_between before through d.priced.day ≡ true) ds
      → All (λ d. list_any (int_eq d.priced.day)
      (days_of before through (map with_system ds)) ≡ true) ds
  days_hold before through [] rising dated =
      All-nil (λ (d : Detail). list_any (int_eq d.priced.day) (days_of before through []) ≡ true)
  days_hold before through (d ∷ ds) rising dated =
      let first = some_first before in
      let last = some_end through in
      on_days before through (d ∷ ds) rising dated first.0 last.0 first.1 last.1
    where
      some_first : (before : Option ℤ)
          → (first : ℤ) × (begins_on before (Some d.priced.day) ≡ Some first)
      some_first None = (d.priced.day, refl)
      some_first (Some close) = (close +ℤ pos 1, refl)

      some_end : (through : Option ℤ)
          → (last : ℤ) × (ends_on through (day_of_last (map with_system (d ∷ ds))) ≡ Some last)
      some_end None = some_last d ds
      some_end (Some close) = (close, refl)

-- ---- the count of the statement

-- the rows of some prices count as many as there are
rows_count : (ds : List Detail)
    → sum_by (λ (row : ChargeRow). row.count) (rows_of (map (λ (d : Detail). d.priced) ds))
    ≡ length ds
rows_count ds =
    let prices : List Priced = map (λ (d : Detail). d.priced) ds in
    sum_by-rows (λ row. row.count) (λ _. 1) prices (λ key. length-sum_by (charged_at prices key))
    ∙ sym (length-sum_by prices) ∙ length-map ds (λ (d : Detail). d.priced)

-- the law
pub coverage_adds_up : CoverageAddsUp
coverage_adds_up naming history number period made found =
    let book : Book = book_after history in
    let sound = sound_after naming history made in
    let ds : List Detail = details_of naming book.rulings period in
    let before = through_of (number - 1) book.rulings in
    let through = through_of number book.rulings in
    let counted = counted_by_day naming history number period made found in
    let held = of_period (AreHeld book.held) naming book sound (all_held naming book sound) number
    period found in
    let dated = each_detail naming book.rulings
    (λ d. is_between before through d.priced.day ≡ true) period.counted
    (named naming book sound period.counted held.counted)
    (λ bytes there priced price.
    ap (is_between before through)
    (priced_day (in_force (day_of bytes) book.rulings.tariffs) bytes priced price)
    ∙ passes_those (is_dated_in book.rulings number) (counted_of book) bytes
    (subst (λ records. has records bytes ≡ true) counted there)) in
    let hold = days_hold naming book before through ds
    (details_rise naming book.rulings period.counted) dated in
    let details : List SystemDetail = map (on_system naming book) ds in
    let add_up : AddUp ds (rows_for book.rulings period.counted) =
    of_period (λ period. AddUp (details_of naming book.rulings period)
    (rows_for book.rulings period.counted))
    naming book sound (details_add_up naming book sound) number period found in
    counts_sum before through details
    (All-map (λ one. list_any (int_eq (its_day one)) (days_of before through details) ≡ true)
    (on_system naming book) ds hold)
    ∙ length-map ds (on_system naming book)
    ∙ sym (rows_count ds)
    ∙ ap (sum_by (λ (row : ChargeRow). row.count)) add_up.recomputed
