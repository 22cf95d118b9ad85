-- The coverage of a period while it is summed up, one record at a time.
use Rattle.std.specs.Prelude.{◌≡◌, ℕ, ℤ, All, List, [], map, Option, None, Some, unwrap_or}
use Rattle.std.specs.BTreeMap.{is_at}
use Rattle.std.specs.Map.{lookup}
use Rattle.book_model.specs.Std.{int_cmp, ordering_then, Ordering}
use Rattle.book_model.specs.Words.{IsDay, by_bytes, members, set_of}
use Rattle.coverage_texts.specs.Coverage.{day_of_first, day_of_last, place_of, row_at, row_of}
use Rattle.coverage_texts.specs.Coverage.{systems_of}
use Rattle.coverage_texts.specs.declared.coverage_rows.CoveragePlace.{CoveragePlace}
use Rattle.coverage_texts.specs.declared.coverage_rows.CoverageRow.{CoverageRow}
use Rattle.coverage_texts.specs.declared.coverage_rows.SystemDetail.{SystemDetail}
use Rattle.book_reports.specs.declared.coverage_sums.CoverageSums.{CoverageSums}

-- records, in the order in which they are read
abbrev pub SystemDetails : Type 0
SystemDetails = List SystemDetail

-- by day, then system
abbrev pub by_place : CoveragePlace → CoveragePlace → Ordering
by_place a b = ordering_then (int_cmp a.day b.day) (by_bytes a.system b.system)

-- the rows of some records, each under its place
abbrev pub keyed_coverage : SystemDetails → List (CoveragePlace × CoverageRow)
keyed_coverage details =
    map (λ place. (place, row_at details place)) (members (set_of by_place (map place_of details)))

-- the row of a place among some, an empty one where none is there
abbrev pub row_among : List (CoveragePlace × CoverageRow) → CoveragePlace → CoverageRow
row_among rows place = unwrap_or (lookup (is_at (by_place place)) rows) (row_of place [])

-- the row of a system on a day, and those of all systems
abbrev pub row_on : List (CoveragePlace × CoverageRow) → ℤ → List ℕ → CoverageRow
row_on rows day system = row_among rows (record { day = day; system = system })

abbrev pub rows_on : List (CoveragePlace × CoverageRow) → List (List ℕ) → ℤ → List CoverageRow
rows_on rows systems day = map (row_on rows day) systems

-- the day of the first record so far, with one more
abbrev pub first_with : Option ℤ → SystemDetail → Option ℤ
first_with None one = Some one.detail.priced.day
first_with (Some first) one = Some first

-- these records come to that
pub record IsCoverageOf (sums : CoverageSums) (details : SystemDetails) : Type 0 where
  pub rows : sums.rows.entries ≡ keyed_coverage details
  pub systems : sums.systems.keys ≡ systems_of details
  pub first : sums.first ≡ day_of_first details
  pub last : sums.last ≡ day_of_last details
  pub days : All (λ one. IsDay one.detail.priced.day) details
