-- The tables of a period's page: its statement, its adjustments, and disputes.
use Rattle.std.specs.Prelude.{ℕ, ℤ, List, [], ◌∷◌, ◌++◌, codes, flat_map, sum_by, Option, Some, None}
use Rattle.std.specs.Prelude.{Bool, true, if◌then◌else◌}
use Rattle.std.specs.Fmt.{decimal}
use Rattle.std.specs.List.{concat, list_any}
use Rattle.book_model.specs.declared.dispute.Variant.{Variant}
use Rattle.book_model.specs.declared.line.Line.{Line}
use Rattle.book_model.specs.declared.row.ChargeRow.{ChargeRow}
use Rattle.book_model.specs.Words.{Disputed, day_text_of, is_between, show_text}
use Rattle.report_texts.specs.AdjustmentLists.{charged_amount, reversed_amount, signed_text}
use Rattle.report_texts.specs.AdjustmentLists.{word_of}
use Rattle.report_texts.specs.Columns.{amount_text, seconds_text}
use Rattle.report_texts.specs.DisputeLists.{completion_text, identity_line}
use Rattle.html_text.specs.Escaping.{escaped}
use Rattle.page_texts.specs.Frame.{table_end, table_foot}
use Rattle.page_texts.specs.Markup.{record_link, table_row}

-- what stands above the rows of the statement
unfoldable pub statement_head : List ℕ
statement_head =
    codes "<div class='scroll'>\n<table class='statement'>\n<caption>Statement</caption>\n<thead><tr>"
    ++ codes "<th scope='col'>Day</th><th scope='col'>Centre</th><th scope='col'>Shift</th>"
    ++ codes "<th scope='col'>Records</th><th scope='col'>CPU seconds</th>"
    ++ codes "<th scope='col'>Blocks</th><th scope='col'>Amount</th></tr></thead>\n<tbody>"

-- the row of a charge row
unfoldable pub statement_row : ChargeRow → List ℕ
statement_row row =
    table_row
    (day_text_of row.day ∷ escaped row.centre ∷ escaped row.shift ∷ decimal row.count
    ∷ seconds_text row.cpu ∷ decimal row.blocks ∷ amount_text row.amount ∷ [])

-- the end of the statement, with the sums of charge rows
unfoldable pub statement_foot : List ChargeRow → List ℕ
statement_foot rows =
    table_foot
    (codes "Total" ∷ [] ∷ [] ∷ decimal (sum_by (λ row. row.count) rows)
    ∷ seconds_text (sum_by (λ row. row.cpu) rows) ∷ decimal (sum_by (λ row. row.blocks) rows)
    ∷ amount_text (sum_by (λ row. row.amount) rows) ∷ [])

-- the statement
unfoldable pub statement_part : List ChargeRow → List ℕ
statement_part rows = statement_head ++ flat_map statement_row rows ++ statement_foot rows

-- what stands above the rows of adjustments
unfoldable pub adjustment_head : List ℕ
adjustment_head =
    codes "<div class='scroll'>\n<table class='adjustments'>\n<caption>Adjustments</caption>\n"
    ++ codes "<thead><tr><th scope='col'>Sign</th><th scope='col'>Day</th>"
    ++ codes "<th scope='col'>Centre</th><th scope='col'>Shift</th><th scope='col'>Amount</th>"
    ++ codes "<th scope='col'>Record</th><th scope='col'>Job</th></tr></thead>\n<tbody>"

-- the row of an adjustment line
unfoldable pub adjustment_row : Line → List ℕ
adjustment_row line =
    table_row
    (word_of line.plus ∷ day_text_of line.priced.day ∷ escaped line.priced.centre
    ∷ escaped line.priced.shift ∷ signed_text (charged_amount line) (reversed_amount line)
    ∷ record_link line.name ∷ escaped (show_text line.job) ∷ [])

-- the end of the adjustments, with their sum
unfoldable pub adjustment_foot : List Line → List ℕ
adjustment_foot lines =
    table_foot
    (codes "Total" ∷ [] ∷ [] ∷ []
    ∷ signed_text (sum_by charged_amount lines) (sum_by reversed_amount lines) ∷ [] ∷ [] ∷ [])

-- the adjustments
unfoldable pub adjustment_part : List Line → List ℕ
adjustment_part lines =
    adjustment_head ++ flat_map adjustment_row lines ++ adjustment_foot lines

-- what stands above the rows of disputes
unfoldable pub dispute_head : List ℕ
dispute_head =
    codes "<div class='scroll'>\n<table class='disputes'>\n<caption>Disputes</caption>\n<thead><tr>"
    ++ codes "<th scope='col'>Record</th><th scope='col'>Day</th><th scope='col'>Amount</th>"
    ++ codes "<th scope='col'>Completion</th><th scope='col'>Job id</th>"
    ++ codes "<th scope='col'>Program</th></tr></thead>\n<tbody>"

-- the row of a record in dispute
unfoldable pub member_row : Variant → List ℕ
member_row member =
    table_row
    (record_link member.name ∷ day_text_of member.priced.day ∷ amount_text member.priced.amount
    ∷ completion_text member.completion ∷ escaped (show_text member.job_id)
    ∷ escaped (show_text member.program) ∷ [])

-- the row of an identity
unfoldable pub identity_row : List ℕ → List ℕ
identity_row identity =
    concat
    (codes "<tr><th colspan='6' scope='rowgroup'>" ∷ escaped (identity_line identity)
    ∷ codes "</th></tr>\n" ∷ [])

-- the rows of a dispute: its identity, and its records
unfoldable pub dispute_rows : Disputed → List ℕ
dispute_rows dispute = identity_row dispute.identity ++ flat_map member_row dispute.members

-- whether a dispute stands on a period's page, by the close before the period and by its own: on that of
-- the open one each does, as it holds work back now; on that of a closed one those that have a record
-- dated in it
abbrev pub is_shown_in : Option ℤ → Option ℤ → List Variant → Bool
is_shown_in before None members = true
is_shown_in before (Some last) members =
    list_any (λ member. is_between before (Some last) member.priced.day) members

-- the rows of one that does; another has none
unfoldable pub dated_rows : Option ℤ → Option ℤ → Disputed → List ℕ
dated_rows before through dispute =
    if is_shown_in before through dispute.members then dispute_rows dispute else []

-- the disputes of a period
unfoldable pub dispute_part : Option ℤ → Option ℤ → List Disputed → List ℕ
dispute_part before through disputes =
    dispute_head ++ flat_map (dated_rows before through) disputes ++ table_end
