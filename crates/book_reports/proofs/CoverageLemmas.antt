-- The coverage of a period, one more record at a time; and its rows, day by day.
use Rattle.std.proofs.Common.{◌≡◌, ◌∙◌, ℕ, ℤ, List, [], ◌∷◌, ◌++◌, map, refl, sym, ap}
use Rattle.std.proofs.Common.{subst, fold, int_cmp, length-append, nat_cmp, unwrap_or, Option, Some}
use Rattle.std.proofs.Common.{None, All, flat_map}
use Rattle.std.specs.BTreeMap.{insert_entry, is_at}
use Rattle.std.specs.BTreeSet.{insert_key}
use Rattle.std.specs.Cmp.{both_tied}
use Rattle.std.specs.Map.{lookup}
use Rattle.std.specs.Option.{ForSome}
use Rattle.std.proofs.lemmas.List.{map_push}
use Rattle.std.proofs.lemmas.Map.Lookups.{exact_pairs, exact_signed}
use Rattle.book_model.proofs.Std.{All-map, All-push, IsTotalOrder, eq_by_cmp, exact_bytes}
use Rattle.book_model.proofs.Std.{int_cmp_total, nat_list_cmp_total, on_total, slice_cmp}
use Rattle.book_model.proofs.Std.{texts_ties, then_total}
use Rattle.book_model.specs.Words.{IsDay, by_bytes, members, set_of}
use Rattle.book_core.proofs.GroupLemmas.{groups-none, groups-push, lookup-groups}
use Rattle.coverage_texts.specs.Coverage.{begins_on, coverage_rows, day_of_first, day_of_last}
use Rattle.coverage_texts.specs.Coverage.{day_rows, earlier, ends_on, later, place_of, row_at, row_of}
use Rattle.coverage_texts.specs.Coverage.{row_with, same_place, systems_of, those}
use Rattle.coverage_texts.specs.declared.coverage_rows.CoveragePlace.{CoveragePlace}
use Rattle.report_texts.proofs.ChargeLemmas.{one_more}
use Rattle.coverage_texts.proofs.CoverageLemmas.{begins_late, dated, days_shown, first_shown}
use Rattle.coverage_texts.proofs.CoverageLemmas.{last_shown}
use Rattle.book_reports.specs.declared.coverage_sums.CoverageSums.{CoverageSums}
use Rattle.book_reports.proofs.Words.{days_between, CoverageRow, SystemDetail, ends_early}
use Rattle.book_reports.proofs.Words.{IsCoverageOf, SystemDetails, rows_on}
use Rattle.book_reports.specs.CoverageSums.{by_place, first_with, keyed_coverage, row_among}
use Rattle.std.specs.FinMap as finite

-- ---- places

-- the order of places is total
pub by_place_total : IsTotalOrder by_place
by_place_total =
    then_total (on_total (λ (place : CoveragePlace). place.day) int_cmp_total)
    (on_total (λ (place : CoveragePlace). place.system) nat_list_cmp_total)

-- and keeps all places apart
pub by_place_exact : finite.IsAntisymmetric by_place
by_place_exact a b tied =
    let exact = exact_pairs int_cmp by_bytes exact_signed exact_bytes in
    let made : ℤ × List ℕ → CoveragePlace = λ t. record { day = t.0; system = t.1 } in
    ap made (exact (a.day, a.system) (b.day, b.system) tied)

-- the same places are one in it
pub same_place_ties : (a b : CoveragePlace) → same_place a b ≡ eq_by_cmp by_place a b
same_place_ties a b =
    both_tied _ _ (int_cmp a.day b.day) (slice_cmp nat_cmp a.system b.system) refl
    (texts_ties a.system b.system)

-- ---- one more record

-- what was made of some elements, and then of one more
fold_push : {A B : Type 0} (f : B → A → B) (start : B) (xs : List A) (x : A)
    → fold f start (xs ++ x ∷ []) ≡ f (fold f start xs) x
fold_push f start [] x = refl
fold_push f start (y ∷ ys) x = fold_push f (f start y) ys x

-- the row of a place, with one more record there
row_of-push : (place : CoveragePlace) (here : SystemDetails) (one : SystemDetail)
    → row_of place (here ++ one ∷ []) ≡ row_with (row_of place here) one
row_of-push place here one =
    let Time : Type 0 = Option ℕ in
    let first : Time → SystemDetail → Time = λ time one. earlier time one.detail.time in
    let last : Time → SystemDetail → Time = λ time one. later time one.detail.time in
    λ i. record {
      day = place.day;
      system = place.system;
      count = length-append here (one ∷ []) i;
      first = fold_push first None here one i;
      last = fold_push last None here one i;
    }

-- no record makes no row
pub keyed_coverage-none : keyed_coverage [] ≡ []
keyed_coverage-none = groups-none by_place_total by_place_exact same_place_ties place_of row_of

-- one more joins the row of its place
keyed_coverage-push : (details : SystemDetails) (one : SystemDetail)
    → keyed_coverage (details ++ one ∷ [])
    ≡ insert_entry by_place (keyed_coverage details) (place_of one)
    (row_with (row_at details (place_of one)) one)
keyed_coverage-push details one =
    groups-push by_place_total by_place_exact same_place_ties place_of row_of details one
    ∙ ap (insert_entry by_place (keyed_coverage details) (place_of one))
    (row_of-push (place_of one) (those details (place_of one)) one)

-- the row that a place has so far, or an empty one
row_found : (details : SystemDetails) (place : CoveragePlace)
    → row_among (keyed_coverage details) place ≡ row_at details place
row_found details place =
    lookup-groups by_place_total by_place_exact same_place_ties place_of row_of details place

-- so a record joins the row that was found for its place
pub coverage_joined : (details : SystemDetails) (one : SystemDetail)
    (rows : List (CoveragePlace × CoverageRow)) (place : CoveragePlace)
    (empty row more : CoverageRow) → rows ≡ keyed_coverage details → place ≡ place_of one
    → empty ≡ row_of place [] → row ≡ unwrap_or (lookup (is_at (by_place place)) rows) empty
    → more ≡ row_with row one
    → insert_entry by_place rows place more ≡ keyed_coverage (details ++ one ∷ [])
coverage_joined details one rows place empty row more kept at is_empty found is =
    let own : row ≡ row_at details (place_of one) =
    found ∙ (λ i. unwrap_or (lookup (is_at (by_place place)) (kept i)) (is_empty i))
    ∙ row_found details place ∙ ap (row_at details) at in
    let joined = is ∙ ap (λ (row : CoverageRow). row_with row one) own in
    (λ i. insert_entry by_place (kept i) (at i) (joined i)) ∙ sym (keyed_coverage-push details one)

-- its system joins the others
pub system_joined : (details : SystemDetails) (one : SystemDetail) (keys : List (List ℕ))
    → keys ≡ systems_of details
    → insert_key by_bytes keys one.system ≡ systems_of (details ++ one ∷ [])
system_joined details one keys kept =
    let system : SystemDetail → List ℕ = λ one. one.system in
    ap (λ keys. insert_key by_bytes keys one.system) kept
    ∙ sym (one_more (map system details) one.system)
    ∙ ap (λ names. members (set_of by_bytes names)) (sym (map_push system details one))

-- the first record stays the first, and this one is the last
pub first_joined : (details : SystemDetails) (one : SystemDetail) (first : Option ℤ)
    → first ≡ day_of_first details
    → first_with first one ≡ day_of_first (details ++ one ∷ [])
first_joined [] one first kept = ap (λ first. first_with first one) kept
first_joined (other ∷ more) one first kept = ap (λ first. first_with first one) kept

pub last_joined : (details : SystemDetails) (one : SystemDetail)
    → Some one.detail.priced.day ≡ day_of_last (details ++ one ∷ [])
last_joined [] one = refl
last_joined (other ∷ []) one = refl
last_joined (other ∷ next ∷ more) one = last_joined (next ∷ more) one

-- so the sums are those of one record more
pub record_joined : (sums more : CoverageSums) (details : SystemDetails) (one : SystemDetail)
    → IsDay one.detail.priced.day → IsCoverageOf sums details
    → more.rows.entries ≡ keyed_coverage (details ++ one ∷ [])
    → more.systems.keys ≡ insert_key by_bytes sums.systems.keys one.system
    → more.first ≡ first_with sums.first one → more.last ≡ Some one.detail.priced.day
    → IsCoverageOf more (details ++ one ∷ [])
record_joined sums more details one day is rows systems first last = record {
  rows = rows;
  systems = systems ∙ system_joined details one sums.systems.keys is.systems;
  first = first ∙ first_joined details one sums.first is.first;
  last = last ∙ last_joined details one;
  days = All-push (λ (one : SystemDetail). IsDay one.detail.priced.day) details one is.days day;
}

-- ---- the rows of a period

module _ (sums : CoverageSums) (details : SystemDetails) (is : IsCoverageOf sums details) where
  -- the day of the last record is one
  pub last_is_day : ForSome sums.last IsDay
  last_is_day = subst (λ last. ForSome last IsDay) (sym is.last) (last_shown details is.days)

  -- the row that is found for a place is that of the records there
  row_is : (place : CoveragePlace) → row_among sums.rows.entries place ≡ row_at details place
  row_is place = ap (λ rows. row_among rows place) is.rows ∙ row_found details place

  -- so the rows of a day are those of its records
  rows_are : rows_on sums.rows.entries sums.systems.keys ≡ day_rows details
  rows_are = λ i day.
      map (λ system. row_is (record { day = day; system = system }) i) (is.systems i)

  -- and those of all days are those of the period
  pub coverage_is : (before through : Option ℤ)
      → flat_map (rows_on sums.rows.entries sums.systems.keys)
      (days_between (begins_on before sums.first) (ends_on through sums.last))
      ≡ coverage_rows before through details
  coverage_is before through =
      λ i. flat_map (rows_are i)
      (days_between (begins_on before (is.first i)) (ends_on through (is.last i)))

-- each row of a period is of a day
pub rows_dated : (before through : Option ℤ) (details : SystemDetails)
    → All (λ one. IsDay one.detail.priced.day) details → ForSome before IsDay
    → ForSome through IsDay → All (λ row. IsDay row.day) (coverage_rows before through details)
rows_dated before through details are early late =
    dated (day_rows details)
    (λ day is. All-map (λ (row : CoverageRow). IsDay row.day)
    (λ system. row_at details (record { day = day; system = system })) (systems_of details)
    (λ k system within. is))
    (days_between (begins_on before (day_of_first details)) (ends_on through (day_of_last details)))
    (days_shown (begins_on before (day_of_first details))
    (ends_on through (day_of_last details))
    (begins_late before (day_of_first details) early (first_shown details are))
    (ends_early through (day_of_last details) late (last_shown details are)))
