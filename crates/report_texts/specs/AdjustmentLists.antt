-- Lists of adjustments: what a period adds to closed periods and reverses, a line for each record
-- and one for their sum.
use Rattle.std.specs.Prelude.{ℕ, ◌-◌, nat_lt, if◌then◌else◌, Bool, true, false, List, [], ◌++◌}
use Rattle.std.specs.Prelude.{codes, flat_map, sum_by, Option, ℤ}
use Rattle.hex.specs.Hex.{encode_lower}
use Rattle.book_model.specs.Words.{show_text, day_text_of}
use Rattle.book_model.specs.declared.line.Line.{Line}
use Rattle.report_texts.specs.Columns.{newline, left_aligned, right_aligned, amount_text}
use Rattle.report_texts.specs.Periods.{title_line}
use Rattle.report_texts.specs.Statements.{key_columns}

-- what is charged less what is reversed, a minus sign before what is below zero
unfoldable pub signed_text : ℕ → ℕ → List ℕ
signed_text charged taken =
    if nat_lt charged taken then codes "-" ++ amount_text (taken - charged)
    else amount_text (charged - taken)

-- what a line charges
abbrev pub charged_amount : Line → ℕ
charged_amount line = if line.plus then line.priced.amount else 0

-- what it reverses
abbrev pub reversed_amount : Line → ℕ
reversed_amount line = if line.plus then 0 else line.priced.amount

-- whether a line charges its record, or reverses the charge
abbrev pub word_of : Bool → List ℕ
word_of true = codes "PLUS"
word_of false = codes "MINUS"

-- the columns that say what a line does, and where its record is charged
unfoldable pub action_columns : List ℕ → List ℕ → List ℕ → List ℕ → List ℕ
action_columns word day centre shift = left_aligned 5 word ++ codes " " ++ key_columns day centre shift

-- the column of a signed amount
unfoldable pub signed_column : ℕ → ℕ → List ℕ
signed_column charged taken = right_aligned 21 (signed_text charged taken)

-- the record's name and job, and the end of the line
unfoldable pub name_columns : Line → List ℕ
name_columns line =
    codes " " ++ encode_lower line.name ++ codes " " ++ show_text line.job ++ newline

-- these columns of a line
unfoldable pub line_place : Line → List ℕ
line_place line =
    action_columns (word_of line.plus)
    (day_text_of line.priced.day) line.priced.centre line.priced.shift

-- the line of a record: what it does, and where; its amount; and which record it is
unfoldable pub adjustment_line : Line → List ℕ
adjustment_line line =
    line_place line
    ++ signed_column (charged_amount line) (reversed_amount line)
    ++ name_columns line

-- the line below the others
unfoldable pub sum_line : List Line → List ℕ
sum_line lines =
    action_columns (codes "TOTAL") [] [] []
    ++ signed_column (sum_by charged_amount lines) (sum_by reversed_amount lines) ++ newline

-- adjustments under a title: of a period, by its number, the day that it was closed through, if it
-- was, and lines
abbrev pub titled_adjustments : List ℕ → ℕ → Option ℤ → List Line → List ℕ
titled_adjustments title period through lines =
    title_line title period through
    ++ flat_map adjustment_line lines
    ++ sum_line lines

-- the adjustments of a period, with all its lines
abbrev pub adjustment_list_text : ℕ → Option ℤ → List Line → List ℕ
adjustment_list_text period through lines =
    titled_adjustments (codes "ADJUSTMENTS") period through lines
