-- Reports on one centre: of what a period has, they show what is charged to the centre, and its sum.
use Rattle.std.specs.Prelude.{ℕ, List, ◌++◌, codes, filter, Option, ℤ}
use Rattle.book_model.specs.declared.line.Line.{Line}
use Rattle.book_model.specs.declared.row.ChargeRow.{ChargeRow}
use Rattle.book_model.specs.Words.{same_bytes}
use Rattle.report_texts.specs.declared.charges.CreditAmount.{CreditAmount}
use Rattle.report_texts.specs.Statements.{titled_statement}
use Rattle.report_texts.specs.StatementTables.{statement_table}
use Rattle.report_texts.specs.AdjustmentLists.{titled_adjustments}
use Rattle.report_texts.specs.AdjustmentTables.{adjustment_table}

-- of charge rows, those of the centre
abbrev pub rows_of_centre : List ℕ → List ChargeRow → List ChargeRow
rows_of_centre centre rows = filter (λ row. same_bytes row.centre centre) rows

-- of adjustment lines, those of the centre
abbrev pub lines_of_centre : List ℕ → List Line → List Line
lines_of_centre centre lines = filter (λ line. same_bytes line.priced.centre centre) lines

-- of credits, those of the centre
abbrev pub credits_of_centre : List ℕ → List CreditAmount → List CreditAmount
credits_of_centre centre credits = filter (λ credit. same_bytes credit.centre centre) credits

-- the title of a report on the centre
unfoldable pub centre_title : List ℕ → List ℕ → List ℕ
centre_title report centre = report ++ codes " CENTRE " ++ centre

-- its statement for a period, of whose rows these are all
abbrev pub centre_statement_text : List ℕ → ℕ → Option ℤ → List ChargeRow → List ℕ
centre_statement_text centre period through rows =
    titled_statement (centre_title (codes "STATEMENT") centre) period through
    (rows_of_centre centre rows)

-- the same as a table
abbrev pub centre_statement_table : List ℕ → ℕ → List ChargeRow → List ℕ
centre_statement_table centre period rows = statement_table period (rows_of_centre centre rows)

-- its adjustments in a period, of whose lines these are all
abbrev pub centre_adjustments_text : List ℕ → ℕ → Option ℤ → List Line → List ℕ
centre_adjustments_text centre period through lines =
    titled_adjustments (centre_title (codes "ADJUSTMENTS") centre) period through
    (lines_of_centre centre lines)

-- the same as a table
abbrev pub centre_adjustment_table : List ℕ → ℕ → List Line → List ℕ
centre_adjustment_table centre period lines =
    adjustment_table period (lines_of_centre centre lines)
