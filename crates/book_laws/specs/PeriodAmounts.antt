-- What the rows and lines of periods amount to, at the prices of some rulings.
use Rattle.std.specs.Prelude.{ℕ, List, sum_by}
use Rattle.book_model.specs.declared.line.Line.{Line}
use Rattle.book_model.specs.Words.{Period, lines_of, Naming, rows_for, Rulings, total_of}
use Rattle.report_texts.specs.AdjustmentLists.{charged_amount, reversed_amount}

-- the charge rows of all the periods
abbrev pub rows_amount : Rulings → List Period → ℕ
rows_amount rulings periods =
    sum_by (λ period. sum_by (λ row. row.amount) (rows_for rulings period.counted)) periods

-- what the plus lines among some lines charge, and what the minus lines reverse, as the total of a
-- list of adjustments has them
abbrev pub plus_of : List Line → ℕ
plus_of lines = sum_by charged_amount lines

abbrev pub minus_of : List Line → ℕ
minus_of lines = sum_by reversed_amount lines

-- the plus lines of all the periods, as they are read
abbrev pub plus_amount : Naming → Rulings → List Period → ℕ
plus_amount naming rulings periods =
    sum_by (λ period. plus_of (lines_of naming rulings period)) periods

-- the minus lines of all the periods, as they are read
abbrev pub minus_amount : Naming → Rulings → List Period → ℕ
minus_amount naming rulings periods =
    sum_by (λ period. minus_of (lines_of naming rulings period)) periods

-- the records that the periods add, and those that they reverse, each at its price
abbrev pub added_cost : Rulings → List Period → ℕ
added_cost rulings periods = sum_by (λ period. total_of rulings period.added) periods

abbrev pub reversed_cost : Rulings → List Period → ℕ
reversed_cost rulings periods = sum_by (λ period. total_of rulings period.taken) periods
