-- Charge rows as tables of comma-separated values: a heading, and a line for each of them.
use Rattle.std.specs.Prelude.{ℕ, List, [], ◌∷◌, ◌++◌, codes, flat_map, decimal}
use Rattle.book_model.specs.Words.{day_text_of}
use Rattle.book_model.specs.declared.row.ChargeRow.{ChargeRow}
use Rattle.report_texts.specs.Columns.{newline, seconds_text, amount_text}

-- fields with a comma between each two, and the end of the line
abbrev pub comma_line : List ℕ → List (List ℕ) → List ℕ
comma_line first others = first ++ flat_map (λ field. codes "," ++ field) others ++ newline

-- the names of the columns, of which the last one has the amounts
unfoldable pub table_heading : List ℕ → List ℕ
table_heading amounts =
    codes "period,day,centre,shift,count,cpu,blocks," ++ amounts ++ newline

-- the fields of a row of a period
abbrev pub table_fields : ℕ → ChargeRow → List (List ℕ)
table_fields period row =
    decimal period ∷ day_text_of row.day ∷ row.centre ∷ row.shift ∷ decimal row.count
    ∷ seconds_text row.cpu ∷ decimal row.blocks ∷ amount_text row.amount ∷ []

-- its line
unfoldable pub table_line : ℕ → ChargeRow → List ℕ
table_line period row =
    comma_line (decimal period)
    (day_text_of row.day ∷ row.centre ∷ row.shift ∷ decimal row.count ∷ seconds_text row.cpu
    ∷ decimal row.blocks ∷ amount_text row.amount ∷ [])

-- the heading, and a line for each row; there is no total
abbrev pub row_table : List ℕ → ℕ → List ChargeRow → List ℕ
row_table amounts period rows = table_heading amounts ++ flat_map (table_line period) rows

-- the statement of a period
abbrev pub statement_table : ℕ → List ChargeRow → List ℕ
statement_table period rows = row_table (codes "amount") period rows
