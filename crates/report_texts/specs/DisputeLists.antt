-- Lists of disputes: the identities that two or more held records have, each with these records.
use Rattle.std.specs.Prelude.{ℕ, ◌==◌, if◌then◌else◌, List, [], ◌++◌, length, flat_map, codes}
use Rattle.std.specs.Prelude.{Option, Some, None, decimal}
use Rattle.hex.specs.Hex.{encode_lower, encode_upper}
use Rattle.book_model.specs.Words.{show_text, day_text_of, number, part, identity2_length, Disputed}
use Rattle.book_model.specs.declared.dispute.Variant.{Variant}
use Rattle.report_texts.specs.Columns.{newline, right_aligned, amount_text}

-- of an identity the system, its first 4 bytes, and the job, the next 8
unfoldable pub job_text : List ℕ → List ℕ
job_text identity = show_text (part identity 0 4) ++ codes " " ++ show_text (part identity 4 8)

-- a word, and a time and a date of 4 bytes each
unfoldable pub moment_text : List ℕ → List ℕ → List ℕ → List ℕ
moment_text word time date = word ++ encode_upper time ++ codes " " ++ encode_upper date

-- when a reader took in the job: time and date, the next 4 bytes each
unfoldable pub reader_text : List ℕ → List ℕ
reader_text identity =
    moment_text (codes " READER ") (part identity 12 4) (part identity 16 4)

-- the subtype of the records and the number of the step, the last 2 bytes each
unfoldable pub step_text : List ℕ → List ℕ
step_text identity =
    codes " SUBTYPE " ++ decimal (number identity 20 2)
    ++ codes " STEP " ++ decimal (number identity 22 2)

-- by the second rule also when the work was initiated: time and date, 4 bytes each
unfoldable pub start_text : List ℕ → List ℕ
start_text identity =
    moment_text (codes " START ") (part identity 24 4) (part identity 28 4)

-- the line of an identity, by its length of the first or of the second rule
unfoldable pub identity_line : List ℕ → List ℕ
identity_line identity =
    job_text identity ++ reader_text identity ++ step_text identity
    ++ (if length identity == identity2_length then start_text identity else []) ++ newline

-- completion code and termination indicator, 2 bytes each, where the record has them
unfoldable pub completion_text : Option (List ℕ) → List ℕ
completion_text None = codes "----"
completion_text (Some bytes) =
    encode_upper (part bytes 0 2) ++ codes "/" ++ encode_upper (part bytes 2 2)

-- which record it is, its day and its price
unfoldable pub price_columns : Variant → List ℕ
price_columns member =
    encode_lower member.name
    ++ codes " " ++ day_text_of member.priced.day
    ++ codes " " ++ right_aligned 21 (amount_text member.priced.amount)

-- how its work ended, under which job id, and in which program
unfoldable pub run_columns : Variant → List ℕ
run_columns member =
    completion_text member.completion
    ++ codes " " ++ show_text member.job_id
    ++ codes " " ++ show_text member.program

-- the line of a record
unfoldable pub member_line : Variant → List ℕ
member_line member =
    codes "  " ++ price_columns member ++ codes " " ++ run_columns member ++ newline

-- the line of an identity, and below it those of its records
unfoldable pub dispute_lines : Disputed → List ℕ
dispute_lines dispute = identity_line dispute.identity ++ flat_map member_line dispute.members

-- what stands above so many of them
unfoldable pub dispute_list_head : ℕ → List ℕ
dispute_list_head count = codes "DISPUTES " ++ decimal count ++ newline

-- their number, and then the lines of each
abbrev pub dispute_list_text : List Disputed → List ℕ
dispute_list_text disputes =
    dispute_list_head (length disputes) ++ flat_map dispute_lines disputes
