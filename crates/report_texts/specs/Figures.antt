-- Figures of a period: what a dry run shows of books before a ruling and after it.
use Rattle.std.specs.Prelude.{ℕ, ◌+◌, ◌-◌, nat_lt, ℤ, int_lt, if◌then◌else◌, List, [], ◌∷◌}
use Rattle.std.specs.Prelude.{length, sum_by, Option, Some, None}
use Rattle.std.specs.Option.{option_map_or}
use Rattle.book_model.specs.declared.line.Line.{Line}
use Rattle.book_model.specs.declared.row.ChargeRow.{ChargeRow}
use Rattle.book_model.specs.Words.{Book, Naming, disputes_in, last_period, lines_of, period_of}
use Rattle.book_model.specs.Words.{RulingSeen, TariffSeen, credits_in, rows_for, tariffs_seen}
use Rattle.report_texts.specs.AdjustmentLists.{charged_amount, reversed_amount}
use Rattle.report_texts.specs.declared.dry_runs.TriedRuling.{TriedRuling}
use Rattle.report_texts.specs.declared.dry_runs.TriedRuling.TheVariants.{Tariff, Close, Choose, Adopt}
use Rattle.report_texts.specs.declared.dry_runs.TriedRuling.TheVariants.{Credit, Replace, Withhold}
use Rattle.report_texts.specs.declared.figures.Figures.{Figures}

-- how many records some rows count
abbrev pub record_count : List ChargeRow → ℕ
record_count rows = sum_by (λ row. row.count) rows

-- the records of a row, where they are dated on that day or later
abbrev pub count_from : ℤ → ChargeRow → ℕ
count_from day row = if int_lt row.day day then 0 else row.count

-- how many records of some rows are dated on that day or later
abbrev pub record_count_from : ℤ → List ChargeRow → ℕ
record_count_from day rows = sum_by (count_from day) rows

-- how many of them are dated on the day of another tariff or later, if there is one
abbrev pub count_after : Option ℤ → List ChargeRow → ℕ
count_after None rows = 0
count_after (Some next) rows = record_count_from next rows

-- how many are dated on a day or later, and before the next tariff, if there is one
abbrev pub record_count_under : ℤ → Option ℤ → List ChargeRow → ℕ
record_count_under first next rows = record_count_from first rows - count_after next rows

-- the first day of the first of some tariffs that begins after a day
abbrev pub next_begin : ℤ → List RulingSeen → Option ℤ
next_begin day [] = None
next_begin day (TariffSeen first text ∷ later) =
    if int_lt day first then Some first else next_begin day later
next_begin day (other ∷ later) = next_begin day later

-- The figures of a period by its charge rows and its adjustment lines: what its statement comes to,
-- what its adjustments add and what they reverse, and how many records it counts. The last one is of
-- the ruling.
abbrev pub figures_by : List ChargeRow → List Line → ℕ → Figures
figures_by rows lines own = record {
  statement = sum_by (λ row. row.amount) rows;
  added = sum_by charged_amount lines;
  reversed = sum_by reversed_amount lines;
  records = record_count rows;
  own = own;
}

-- the charge rows of a period of a book, none where the book has no such period
abbrev pub rows_in : ℕ → Book → List ChargeRow
rows_in period book =
    option_map_or (λ found. rows_for book.rulings found.counted) (period_of book period) []

-- its adjustment lines
abbrev pub lines_in : Naming → ℕ → Book → List Line
lines_in naming period book =
    option_map_or (lines_of naming book.rulings) (period_of book period) []

abbrev pub dispute_count : Naming → Book → ℕ
dispute_count naming book = length (disputes_in naming book.rulings book.held)

-- What is counted for one ruling and not for another: for a tariff the records of the period, by its
-- rows, that are dated on its first day or later, and, where it takes the place of another, before the
-- next one; for a close those of the next period; the disputes where a ruling may settle some; and for a
-- credit those of the period.
abbrev pub own_count : Naming → TriedRuling → ℕ → List ChargeRow → Book → ℕ
own_count naming (Tariff first) period rows book = record_count_from first rows
own_count naming (Close number through) period rows book = record_count (rows_in (period + 1) book)
own_count naming (Choose name) period rows book = dispute_count naming book
own_count naming Adopt period rows book = dispute_count naming book
own_count naming (Replace first) period rows book =
    record_count_under first (next_begin first (tariffs_seen book.rulings.tariffs)) rows
own_count naming (Withhold name) period rows book = dispute_count naming book
own_count naming (Credit number centre) period rows book = length (credits_in period book.rulings)

-- the figures of a period of a book, whose charge rows these are
abbrev pub figures_with : Naming → TriedRuling → ℕ → List ChargeRow → Book → Figures
figures_with naming ruling period rows book =
    figures_by rows (lines_in naming period book) (own_count naming ruling period rows book)

-- the figures of a period of a book, as a dry run of the ruling shows them
abbrev pub figures : Naming → TriedRuling → ℕ → Book → Figures
figures naming ruling period book =
    figures_with naming ruling period (rows_in period book) book

-- the number of the period after so many closes; none comes after the last one
abbrev pub number_after : ℕ → ℕ
number_after closes = if nat_lt closes last_period then closes + 1 else last_period

-- the number of the open period of a book
abbrev pub period_open : Book → ℕ
period_open book = number_after (length book.rulings.closes)
