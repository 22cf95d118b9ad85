-- Coverage: by day and system, how many records a period counts, and their first and last time. A
-- day on which a system has none is a gap.
use Rattle.std.specs.Prelude.{ℕ, zero, suc, ◌+◌, ◌==◌, ◌&&◌, nat_lt, if◌then◌else◌, Bool, List, []}
use Rattle.std.specs.Prelude.{◌∷◌, ◌++◌, codes, filter, flat_map, length, map, Option, Some, None}
use Rattle.std.specs.Prelude.{ℤ, pos, ◌+ℤ◌, decimal, fold}
use Rattle.std.specs.Int.{int_gap}
use Rattle.book_model.specs.Std.{int_eq}
use Rattle.book_model.specs.Words.{by_bytes, day_text_of, members, same_bytes, set_of, show_text}
use Rattle.coverage_texts.specs.declared.coverage_rows.CoveragePlace.{CoveragePlace}
use Rattle.coverage_texts.specs.declared.coverage_rows.CoverageRow.{CoverageRow}
use Rattle.coverage_texts.specs.declared.coverage_rows.SystemDetail.{SystemDetail}
use Rattle.report_texts.specs.Columns.{left_aligned, newline, right_aligned}
use Rattle.report_texts.specs.Moments.{time_text}
use Rattle.report_texts.specs.Periods.{title_line}
use Rattle.report_texts.specs.Tables.{fields_line}

-- the day of a record and its system
abbrev pub place_of : SystemDetail → CoveragePlace
place_of one = record { day = one.detail.priced.day; system = one.system }

-- they are one place
abbrev pub same_place : CoveragePlace → CoveragePlace → Bool
same_place a b = int_eq a.day b.day && same_bytes a.system b.system

-- of some records, those of a day and a system
abbrev pub those : List SystemDetail → CoveragePlace → List SystemDetail
those details place = filter (λ one. same_place (place_of one) place) details

-- the earlier of the first time so far, if there is one, and another time
abbrev pub earlier : Option ℕ → ℕ → Option ℕ
earlier None time = Some time
earlier (Some first) time = if nat_lt time first then Some time else Some first

-- the later of the last time so far and another time
abbrev pub later : Option ℕ → ℕ → Option ℕ
later None time = Some time
later (Some last) time = if nat_lt last time then Some time else Some last

-- the first and the last time of some records, if there are any
abbrev pub first_time : List SystemDetail → Option ℕ
first_time details =
    fold (λ (first : Option ℕ) (one : SystemDetail). earlier first one.detail.time) None details

abbrev pub last_time : List SystemDetail → Option ℕ
last_time details =
    fold (λ (last : Option ℕ) (one : SystemDetail). later last one.detail.time) None details

-- the row of a place, by the records there
abbrev pub row_of : CoveragePlace → List SystemDetail → CoverageRow
row_of place here = record {
  day = place.day;
  system = place.system;
  count = length here;
  first = first_time here;
  last = last_time here;
}

-- the same with one more record there
abbrev pub row_with : CoverageRow → SystemDetail → CoverageRow
row_with row one = record row {
  count = row.count + 1;
  first = earlier row.first one.detail.time;
  last = later row.last one.detail.time;
}

-- the row of a place among records of many places
abbrev pub row_at : List SystemDetail → CoveragePlace → CoverageRow
row_at details place = row_of place (those details place)

-- the systems that have a record, each once, in the order of their bytes
abbrev pub systems_of : List SystemDetail → List (List ℕ)
systems_of details = members (set_of by_bytes (map (λ one. one.system) details))

-- the day of the first of some records, and that of the last
abbrev pub day_of_first : List SystemDetail → Option ℤ
day_of_first [] = None
day_of_first (one ∷ more) = Some one.detail.priced.day

abbrev pub day_of_last : List SystemDetail → Option ℤ
day_of_last [] = None
day_of_last (one ∷ []) = Some one.detail.priced.day
day_of_last (one ∷ next ∷ more) = day_of_last (next ∷ more)

-- a period begins on the day after the close before it, or else on that of its first record
abbrev pub begins_on : Option ℤ → Option ℤ → Option ℤ
begins_on None first = first
begins_on (Some before) first = Some (before +ℤ pos 1)

-- it ends on the day of its own close, or else on that of its last record
abbrev pub ends_on : Option ℤ → Option ℤ → Option ℤ
ends_on None last = last
ends_on (Some through) last = Some through

-- so many days, from a day on
abbrev pub days_from : ℤ → ℕ → List ℤ
days_from day zero = []
days_from day (suc more) = day ∷ days_from (day +ℤ pos 1) more

-- the days from the first to the last, if there are both
abbrev pub days_between : Option ℤ → Option ℤ → List ℤ
days_between None last = []
days_between (Some first) None = []
days_between (Some first) (Some last) = days_from first (int_gap first (last +ℤ pos 1))

-- the days of a period, by the close before it and its own
abbrev pub days_of : Option ℤ → Option ℤ → List SystemDetail → List ℤ
days_of before through details =
    days_between (begins_on before (day_of_first details)) (ends_on through (day_of_last details))

-- the rows of a day: one for each system, whether it has a record on that day or not
abbrev pub day_rows : List SystemDetail → ℤ → List CoverageRow
day_rows details day =
    map (λ system. row_at details (record { day = day; system = system })) (systems_of details)

-- the rows of a period
abbrev pub coverage_rows : Option ℤ → Option ℤ → List SystemDetail → List CoverageRow
coverage_rows before through details =
    flat_map (day_rows details) (days_of before through details)

-- the rows without a record
abbrev pub gaps : List CoverageRow → List CoverageRow
gaps rows = filter (λ row. row.count == 0) rows

-- ---- as a list

-- a time of day, `-` where there is none
unfoldable pub time_or_dash : Option ℕ → List ℕ
time_or_dash None = codes "-"
time_or_dash (Some time) = time_text time

-- which day and which system, and how many records
unfoldable pub place_columns : CoverageRow → List ℕ
place_columns row =
    day_text_of row.day ++ codes " " ++ left_aligned 4 (show_text row.system) ++ codes " "
    ++ right_aligned 9 (decimal row.count) ++ codes " "

-- their first and last time
unfoldable pub time_columns : CoverageRow → List ℕ
time_columns row =
    left_aligned 11 (time_or_dash row.first) ++ codes " " ++ time_or_dash row.last ++ newline

-- the line of a row
unfoldable pub coverage_line : CoverageRow → List ℕ
coverage_line row = place_columns row ++ time_columns row

-- the line below them: how many have no record
unfoldable pub gaps_line : List CoverageRow → List ℕ
gaps_line rows = codes "GAPS " ++ decimal (length (gaps rows)) ++ newline

-- the coverage of a period, by its number and the day that it was closed through, if it was
abbrev pub coverage_text : ℕ → Option ℤ → List CoverageRow → List ℕ
coverage_text period through rows =
    title_line (codes "COVERAGE") period through ++ flat_map coverage_line rows ++ gaps_line rows

-- ---- as a table

-- the names of the columns
unfoldable pub coverage_heading : List ℕ
coverage_heading = codes "period,day,system,count,first,last" ++ newline

-- which day and which system
unfoldable pub place_fields : CoverageRow → List (List ℕ)
place_fields row = day_text_of row.day ∷ show_text row.system ∷ []

-- how many records, and their first and last time
unfoldable pub count_fields : CoverageRow → List (List ℕ)
count_fields row =
    decimal row.count ∷ time_or_dash row.first ∷ time_or_dash row.last ∷ []

-- the fields of a row
unfoldable pub coverage_fields : ℕ → CoverageRow → List (List ℕ)
coverage_fields period row = decimal period ∷ place_fields row ++ count_fields row

-- its line
abbrev pub coverage_row : ℕ → CoverageRow → List ℕ
coverage_row period row = fields_line (coverage_fields period row)

-- the heading, and a line for each row; there is no line of gaps
abbrev pub coverage_table : ℕ → List CoverageRow → List ℕ
coverage_table period rows = coverage_heading ++ flat_map (coverage_row period) rows
