-- What a record of usage says, as a record's text shows it: when it was written, and by which entry of
-- the journal it came; which work it measures, how that ran, and its accounting fields.
use Rattle.std.specs.Prelude.{ℕ, List, [], ◌++◌, flat_map, codes, Option, Some, None, decimal}
use Rattle.smf_type30.specs.Accounts.{accounts_of}
use Rattle.smf_type30.specs.Layout.{accounting}
use Rattle.smf_type30.specs.Section.{count_of}
use Rattle.book_model.specs.Words.{completion_of, day_of, ended_step_of, identity_of, initiation_of}
use Rattle.book_model.specs.Words.{EntrySeen, job_id_of, program_of, subtype_of, time_of, part, show_text}
use Rattle.report_texts.specs.Columns.{newline, number_text}
use Rattle.report_texts.specs.JournalLists.{came_line}
use Rattle.report_texts.specs.DisputeLists.{completion_text, job_text, moment_text, reader_text}
use Rattle.report_texts.specs.Moments.{day_time_text}

-- when it was written, by its header, and the period that its day belongs to
unfoldable pub dated_line : List ℕ → ℕ → List ℕ
dated_line bytes period =
    codes "DATED " ++ day_time_text (day_of bytes) (time_of bytes)
    ++ codes " IN PERIOD " ++ decimal period ++ newline

-- the subtype, and the number of the step that ended, `-` where a job ended
unfoldable pub subtype_text : List ℕ → List ℕ
subtype_text bytes =
    codes " SUBTYPE " ++ decimal (subtype_of bytes)
    ++ codes " STEP " ++ number_text (ended_step_of bytes)

-- which work it measures: its identity by the first rule
unfoldable pub work_line : List ℕ → List ℕ
work_line bytes =
    job_text (identity_of bytes) ++ reader_text (identity_of bytes) ++ subtype_text bytes ++ newline

-- when the work was initiated, and how it ended
unfoldable pub start_columns : List ℕ → List ℕ
start_columns bytes =
    moment_text (codes "START ") (part (initiation_of bytes) 0 4) (part (initiation_of bytes) 4 4)
    ++ codes " COMPLETION " ++ completion_text (completion_of bytes)

-- under which job id, and in which program
unfoldable pub program_columns : List ℕ → List ℕ
program_columns bytes =
    codes " " ++ show_text (job_id_of bytes) ++ codes " " ++ show_text (program_of bytes)

-- the line of an accounting field
unfoldable pub account_line : List ℕ → List ℕ
account_line field = codes "  " ++ show_text field ++ newline

-- a line for each of the fields that were found
abbrev pub account_lines : Option (List (List ℕ)) → List ℕ
account_lines None = []
account_lines (Some fields) = flat_map account_line fields

-- how many accounting fields there are, which ends a line, and a line for each
unfoldable pub accounts_text : List ℕ → List ℕ
accounts_text bytes =
    codes " ACCOUNTS " ++ decimal (count_of bytes accounting) ++ newline
    ++ account_lines (accounts_of bytes)

-- all of it
unfoldable pub usage_lines : List ℕ → ℕ → Option EntrySeen → List ℕ
usage_lines bytes period entry =
    dated_line bytes period ++ came_line entry ++ work_line bytes
    ++ start_columns bytes ++ program_columns bytes ++ accounts_text bytes
