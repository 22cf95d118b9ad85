-- Statements: what a period is charged, a line for each charge row and one for their sums.
use Rattle.std.specs.Prelude.{ℕ, List, [], ◌++◌, codes, flat_map, sum_by, Option, ℤ}
use Rattle.std.specs.Fmt.{decimal}
use Rattle.book_model.specs.Words.{day_text_of}
use Rattle.book_model.specs.declared.row.ChargeRow.{ChargeRow}
use Rattle.report_texts.specs.Columns.{newline, left_aligned, right_aligned, seconds_text, amount_text}
use Rattle.report_texts.specs.Periods.{title_line}

-- the columns that say where work is charged: its day, its centre and its shift
unfoldable pub key_columns : List ℕ → List ℕ → List ℕ → List ℕ
key_columns day centre shift =
    left_aligned 10 day ++ codes " " ++ left_aligned 16 centre ++ codes " " ++ left_aligned 16 shift ++ codes " "

-- the columns that say how much work it is: its records, its CPU time and its blocks
abbrev pub work_columns : List ℕ → List ℕ → List ℕ → List ℕ
work_columns count cpu blocks =
    right_aligned 8 count ++ codes " " ++ right_aligned 19 cpu ++ codes " " ++ right_aligned 18 blocks ++ codes " "

-- the column that says what it costs, and the end of the line
abbrev pub amount_column : List ℕ → List ℕ
amount_column amount = right_aligned 21 amount ++ newline

-- the columns of numbers
unfoldable pub number_columns : ℕ → ℕ → ℕ → ℕ → List ℕ
number_columns count cpu blocks amount =
    work_columns (decimal count) (seconds_text cpu) (decimal blocks)
    ++ amount_column (amount_text amount)

-- the line above the rows
abbrev pub heading : List ℕ
heading =
    key_columns (codes "DAY") (codes "CENTRE") (codes "SHIFT")
    ++ work_columns (codes "COUNT") (codes "CPU") (codes "BLOCKS")
    ++ amount_column (codes "AMOUNT")

-- the line of a row
abbrev pub row_line : ChargeRow → List ℕ
row_line row =
    key_columns (day_text_of row.day) row.centre row.shift
    ++ number_columns row.count row.cpu row.blocks row.amount

-- the columns of numbers, for the sums of rows
abbrev pub sum_columns : List ChargeRow → List ℕ
sum_columns rows =
    number_columns
    (sum_by (λ row. row.count) rows)
    (sum_by (λ row. row.cpu) rows)
    (sum_by (λ row. row.blocks) rows)
    (sum_by (λ row. row.amount) rows)

-- a line below the rows: a word, and the sums of some rows
abbrev pub sums_line : List ℕ → List ChargeRow → List ℕ
sums_line word rows = key_columns word [] [] ++ sum_columns rows

-- the line of the rows' own sums
abbrev pub total_line : List ChargeRow → List ℕ
total_line rows = sums_line (codes "TOTAL") rows

-- the lines of rows: the one above them, their own, and the one of their sums
abbrev pub row_lines : List ChargeRow → List ℕ
row_lines rows = heading ++ flat_map row_line rows ++ total_line rows

-- a statement under a title: of a period, by its number, the day that it was closed through, if it
-- was, and rows
abbrev pub titled_statement : List ℕ → ℕ → Option ℤ → List ChargeRow → List ℕ
titled_statement title period through rows =
    title_line title period through ++ row_lines rows

-- the statement of a period, with all its rows
abbrev pub statement_text : ℕ → Option ℤ → List ChargeRow → List ℕ
statement_text period through rows = titled_statement (codes "STATEMENT") period through rows
