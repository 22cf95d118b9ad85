-- Adjustments as tables of comma-separated values: a heading, and a line for each adjustment line.
use Rattle.std.specs.Prelude.{ℕ, List, [], ◌∷◌, ◌++◌, codes, flat_map}
use Rattle.std.specs.Fmt.{decimal}
use Rattle.hex.specs.Hex.{encode_lower}
use Rattle.book_model.specs.Words.{show_text}
use Rattle.book_model.specs.declared.line.Line.{Line}
use Rattle.report_texts.specs.Columns.{newline}
use Rattle.report_texts.specs.AdjustmentLists.{charged_amount, reversed_amount, signed_text, word_of}
use Rattle.report_texts.specs.Tables.{fields_line, key_fields}

-- the names of the columns
unfoldable pub line_heading : List ℕ
line_heading = codes "period,action,day,centre,shift,amount,name,job" ++ newline

-- what a line does, and where its record is charged
unfoldable pub place_fields : Line → List (List ℕ)
place_fields line = word_of line.plus ∷ key_fields line.priced

-- its amount, with a minus sign where it is reversed, and which record it is of
unfoldable pub record_fields : Line → List (List ℕ)
record_fields line =
    signed_text (charged_amount line) (reversed_amount line) ∷ encode_lower line.name
    ∷ show_text line.job ∷ []

-- the fields of a line of a period
unfoldable pub line_fields : ℕ → Line → List (List ℕ)
line_fields period line = decimal period ∷ place_fields line ++ record_fields line

-- the heading, and a line for each adjustment line; there is no total
abbrev pub adjustment_table : ℕ → List Line → List ℕ
adjustment_table period lines =
    line_heading ++ flat_map (λ line. fields_line (line_fields period line)) lines
