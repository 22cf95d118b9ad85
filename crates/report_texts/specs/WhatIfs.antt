-- What-ifs: what a period would have cost by another tariff. They have the lines of a statement,
-- and below them the sums of what the period is charged by the rulings. The head is no statement's,
-- nor is the last heading of the table, so that nobody bills from them.
use Rattle.std.specs.Prelude.{ℕ, List, ◌++◌, codes, Option, ℤ}
use Rattle.hex.specs.Hex.{encode_lower}
use Rattle.book_model.specs.declared.row.ChargeRow.{ChargeRow}
use Rattle.report_texts.specs.Columns.{newline}
use Rattle.report_texts.specs.Periods.{title_line}
use Rattle.report_texts.specs.Statements.{row_lines, sums_line}
use Rattle.report_texts.specs.StatementTables.{row_table}
use Rattle.report_texts.specs.Centres.{centre_title, rows_of_centre}

-- the line that says which tariff it is, by the SHA-256 of its file
unfoldable pub digest_line : List ℕ → List ℕ
digest_line digest = codes "TARIFF " ++ encode_lower digest ++ newline

-- what stands below the title: the tariff, the rows by it, and the rows that the period is charged
unfoldable pub what_if_lines : List ℕ → List ChargeRow → List ChargeRow → List ℕ
what_if_lines digest rows charged =
    digest_line digest ++ row_lines rows ++ sums_line (codes "CHARGED") charged

-- the what-if of a period: by its number, the day that it was closed through, if it was, the
-- tariff, all rows by it, and all rows that the period is charged
abbrev pub what_if_text : ℕ → Option ℤ → List ℕ → List ChargeRow → List ChargeRow → List ℕ
what_if_text period through digest rows charged =
    title_line (codes "WHAT-IF") period through ++ what_if_lines digest rows charged

-- the same as a table, which has no sums
abbrev pub what_if_table : ℕ → List ChargeRow → List ℕ
what_if_table period rows = row_table (codes "what_if") period rows

-- the what-if of a centre, where these are all rows of the period
abbrev pub centre_what_if_text :
    List ℕ → ℕ → Option ℤ → List ℕ → List ChargeRow → List ChargeRow → List ℕ
centre_what_if_text centre period through digest rows charged =
    title_line (centre_title (codes "WHAT-IF") centre) period through
    ++ what_if_lines digest (rows_of_centre centre rows) (rows_of_centre centre charged)

-- the same as a table
abbrev pub centre_what_if_table : List ℕ → ℕ → List ChargeRow → List ℕ
centre_what_if_table centre period rows = what_if_table period (rows_of_centre centre rows)
