-- Lists of details: a line for each record that the rows of a period count, and one for their sum.
-- The columns of place and of numbers are those of a statement.
use Rattle.std.specs.Prelude.{ℕ, List, [], ◌++◌, codes, flat_map, length, sum_by, Option, Some}
use Rattle.std.specs.Prelude.{None, ℤ, decimal}
use Rattle.hex.specs.Hex.{encode_lower}
use Rattle.book_model.specs.Words.{day_text_of, show_text}
use Rattle.book_model.specs.declared.detail.Detail.{Detail}
use Rattle.report_texts.specs.Columns.{newline, left_aligned, right_aligned, number_text}
use Rattle.report_texts.specs.Columns.{seconds_text, amount_text}
use Rattle.report_texts.specs.Centres.{centre_title}
use Rattle.report_texts.specs.Moments.{time_text}
use Rattle.report_texts.specs.Periods.{title_line}
use Rattle.report_texts.specs.Statements.{key_columns, number_columns, work_columns}

-- the columns that say which work it is: its time, its job, its program and its JES job id
unfoldable pub job_columns : List ℕ → List ℕ → List ℕ → List ℕ → List ℕ
job_columns time job program job_id =
    left_aligned 11 time ++ codes " " ++ left_aligned 8 job ++ codes " "
    ++ left_aligned 8 program ++ codes " " ++ left_aligned 8 job_id ++ codes " "

-- of a record, where it is charged
unfoldable pub detail_place : Detail → List ℕ
detail_place detail =
    key_columns (day_text_of detail.priced.day) detail.priced.centre detail.priced.shift

-- which work it is of
unfoldable pub detail_job : Detail → List ℕ
detail_job detail =
    job_columns (time_text detail.time) (show_text detail.job) (show_text detail.program)
    (show_text detail.job_id)

-- the number of the step that ended, which a job has none of; how much work that is; and what it
-- costs
unfoldable pub detail_work : Detail → List ℕ
detail_work detail =
    work_columns (number_text detail.step) (seconds_text detail.priced.cpu)
    (decimal detail.priced.excp)
    ++ right_aligned 21 (amount_text detail.priced.amount)

-- the line of a record
unfoldable pub detail_line : Detail → List ℕ
detail_line detail =
    detail_place detail ++ detail_job detail ++ detail_work detail
    ++ codes " " ++ encode_lower detail.name ++ newline

-- the line above the others
unfoldable pub detail_heading : List ℕ
detail_heading =
    key_columns (codes "DAY") (codes "CENTRE") (codes "SHIFT")
    ++ job_columns (codes "TIME") (codes "JOB") (codes "PROGRAM") (codes "JOBID")
    ++ work_columns (codes "STEP") (codes "CPU") (codes "BLOCKS")
    ++ right_aligned 21 (codes "AMOUNT") ++ codes " NAME" ++ newline

-- The line below the others, by how many records there are and what they come to: its numbers are
-- those of the total of a statement.
unfoldable pub detail_total : ℕ → ℕ → ℕ → ℕ → List ℕ
detail_total count cpu blocks amount =
    key_columns (codes "TOTAL") [] [] ++ job_columns [] [] [] []
    ++ number_columns count cpu blocks amount

-- that line for the sums of details
abbrev pub details_total : List Detail → List ℕ
details_total details =
    detail_total (length details)
    (sum_by (λ detail. detail.priced.cpu) details)
    (sum_by (λ detail. detail.priced.excp) details)
    (sum_by (λ detail. detail.priced.amount) details)

-- the title of the details of a period, or of one centre in it
abbrev pub detail_title : Option (List ℕ) → List ℕ
detail_title None = codes "DETAILS"
detail_title (Some centre) = centre_title (codes "DETAILS") centre

-- what stands above the lines
abbrev pub detail_head : Option (List ℕ) → ℕ → Option ℤ → List ℕ
detail_head centre period through =
    title_line (detail_title centre) period through ++ detail_heading

-- the details of a period or of one centre in it, by its number and the day that it was closed
-- through, if it was
abbrev pub detail_list_text : Option (List ℕ) → ℕ → Option ℤ → List Detail → List ℕ
detail_list_text centre period through details =
    detail_head centre period through ++ flat_map detail_line details ++ details_total details
