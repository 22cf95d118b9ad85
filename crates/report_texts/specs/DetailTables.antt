-- Details as tables of comma-separated values: a heading, and a line for each record.
use Rattle.std.specs.Prelude.{ℕ, List, [], ◌∷◌, ◌++◌, codes, flat_map, decimal}
use Rattle.hex.specs.Hex.{encode_lower}
use Rattle.book_model.specs.Words.{show_text}
use Rattle.book_model.specs.declared.detail.Detail.{Detail}
use Rattle.report_texts.specs.Columns.{amount_text, newline, number_text, seconds_text}
use Rattle.report_texts.specs.Moments.{time_text}
use Rattle.report_texts.specs.Tables.{fields_line, key_fields}

-- the names of the columns
unfoldable pub details_heading : List ℕ
details_heading =
    codes "period,day,centre,shift,time,job,program,jobid,step,cpu,blocks,amount,name" ++ newline

-- which work it is of
unfoldable pub job_fields : Detail → List (List ℕ)
job_fields detail =
    time_text detail.time ∷ show_text detail.job ∷ show_text detail.program
    ∷ show_text detail.job_id ∷ number_text detail.step ∷ []

-- how much work that is, what it costs, and which record it is
unfoldable pub cost_fields : Detail → List (List ℕ)
cost_fields detail =
    seconds_text detail.priced.cpu ∷ decimal detail.priced.excp
    ∷ amount_text detail.priced.amount ∷ encode_lower detail.name ∷ []

-- the fields of a record of a period
unfoldable pub detail_fields : ℕ → Detail → List (List ℕ)
detail_fields period detail =
    decimal period ∷ key_fields detail.priced ++ job_fields detail ++ cost_fields detail

-- the line of a record
abbrev pub detail_row : ℕ → Detail → List ℕ
detail_row period detail = fields_line (detail_fields period detail)

-- the heading, and a line for each record; there is no total
abbrev pub detail_table : ℕ → List Detail → List ℕ
detail_table period details = details_heading ++ flat_map (detail_row period) details
