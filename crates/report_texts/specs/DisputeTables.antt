-- Disputes as tables of comma-separated values: a heading, and a line for each record in dispute.
use Rattle.std.specs.Prelude.{ℕ, ◌+◌, List, [], ◌∷◌, ◌++◌, codes, flat_map, decimal}
use Rattle.hex.specs.Hex.{encode_lower}
use Rattle.book_model.specs.Words.{day_text_of, number, part, show_text, Disputed}
use Rattle.book_model.specs.declared.dispute.Variant.{Variant}
use Rattle.report_texts.specs.Columns.{amount_text, newline, seconds_text}
use Rattle.report_texts.specs.DisputeLists.{completion_text}
use Rattle.report_texts.specs.Moments.{moment_of}
use Rattle.report_texts.specs.Tables.{fields_line}

-- the names of the columns
unfoldable pub member_heading : List ℕ
member_heading =
    codes "dispute,system,job,reader,initiation,subtype,step,"
    ++ codes "name,day,cpu,blocks,amount,completion,jobid,program" ++ newline

-- of an identity the system, its first 4 bytes, the job, the next 8, and when a reader took it in,
-- the 8 after these
unfoldable pub identity_fields : List ℕ → List (List ℕ)
identity_fields identity =
    show_text (part identity 0 4) ∷ show_text (part identity 4 8) ∷ moment_of (part identity 12 8)
    ∷ []

-- the subtype of the records and the number of the step, the last 2 bytes each
unfoldable pub step_fields : List ℕ → List (List ℕ)
step_fields identity = decimal (number identity 20 2) ∷ decimal (number identity 22 2) ∷ []

-- which work a record measures: the number and the identity of its dispute, and its own initiation
unfoldable pub disputed_fields : ℕ → List ℕ → List ℕ → List (List ℕ)
disputed_fields dispute identity initiation =
    decimal dispute ∷ identity_fields identity ++ moment_of initiation ∷ step_fields identity

-- which record it is, and its day, what it measures and what it costs
unfoldable pub price_fields : Variant → List (List ℕ)
price_fields member =
    encode_lower member.name ∷ day_text_of member.priced.day ∷ seconds_text member.priced.cpu
    ∷ decimal member.priced.excp ∷ amount_text member.priced.amount ∷ []

-- how its work ended, under which job id, and in which program
unfoldable pub run_fields : Variant → List (List ℕ)
run_fields member =
    completion_text member.completion ∷ show_text member.job_id ∷ show_text member.program ∷ []

-- the fields of a record of a dispute
unfoldable pub member_fields : ℕ → List ℕ → Variant → List (List ℕ)
member_fields dispute identity member =
    disputed_fields dispute identity member.initiation ++ price_fields member ++ run_fields member

-- its line
abbrev pub member_row : ℕ → List ℕ → Variant → List ℕ
member_row dispute identity member = fields_line (member_fields dispute identity member)

-- the lines of a dispute, of that number
abbrev pub dispute_rows : ℕ → Disputed → List ℕ
dispute_rows dispute disputed = flat_map (member_row dispute disputed.identity) disputed.members

-- the lines of disputes; the first has that number
abbrev pub rows_from : ℕ → List Disputed → List ℕ
rows_from dispute [] = []
rows_from dispute (first ∷ others) = dispute_rows dispute first ++ rows_from (dispute + 1) others

-- the heading, and the lines of each dispute
abbrev pub dispute_table : List Disputed → List ℕ
dispute_table disputes = member_heading ++ rows_from 1 disputes
