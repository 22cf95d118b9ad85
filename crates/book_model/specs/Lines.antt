-- Adjustment lines: what a period adds to closed periods and reverses, as it is read.
use Rattle.std.specs.Prelude.{Bool, true, false, ℕ, List, ◌++◌, ◌<◌, ◌^◌, All, sum_by, Option}
use Rattle.std.specs.Prelude.{option_map, filter_map}
use Rattle.book_model.specs.Std.{Ordering, Less, Equal, Greater, int_cmp, ordering_then}
use Rattle.smf_text.specs.Day.{IsDay}
use Rattle.smf_type30.specs.Usage.{ended_step_of, job_id_of, job_of, program_of}
use Rattle.tariff_rules.specs.declared.priced.Priced.{Priced}
use Rattle.book_model.specs.declared.line.Line.{Line}
use Rattle.book_model.specs.Sets.{set_of, members}
use Rattle.book_model.specs.Records.{Records, Naming, name_of, by_bytes}
use Rattle.book_model.specs.Rulings.{Rulings, price_in}
use Rattle.book_model.specs.Periods.{Period}

-- a line of a record, a plus or a minus, by the record's name and by what it costs
abbrev pub line_with : Bool → List ℕ → List ℕ → Priced → Line
line_with plus name bytes priced = record {
  plus = plus;
  name = name;
  job = job_of bytes;
  program = program_of bytes;
  job_id = job_id_of bytes;
  step = ended_step_of bytes;
  priced = priced;
}

-- the line of a record, where it has a price
abbrev pub line_for : Naming → Rulings → Bool → List ℕ → Option Line
line_for naming rulings plus bytes =
    option_map (line_with plus (name_of naming bytes) bytes) (price_in rulings bytes)

-- the lines for some records: a plus for each, or a minus
abbrev pub lines_for : Naming → Rulings → Bool → Records → List Line
lines_for naming rulings plus records =
    filter_map (line_for naming rulings plus) (members records)

-- of two lines of one record the plus comes first
abbrev pub plus_first : Bool → Bool → Ordering
plus_first true false = Less
plus_first false true = Greater
plus_first a b = Equal

-- by day, then name
abbrev pub by_line : Line → Line → Ordering
by_line a b =
    ordering_then (int_cmp a.priced.day b.priced.day)
    (ordering_then (by_bytes a.name b.name) (plus_first a.plus b.plus))

-- the lines of a period, in the order in which they are read
abbrev pub lines_of : Naming → Rulings → Period → List Line
lines_of naming rulings period =
    members (set_of by_line
    (lines_for naming rulings true period.added ++ lines_for naming rulings false period.taken))

-- lines that a list of adjustments can show: they are dated on days, and the total of any of them
-- fits a signed number of 64 bits
pub record AreLines (lines : List Line) : Type 0 where
  pub days : All (λ line. IsDay line.priced.day) lines
  pub amount : sum_by (λ line. line.priced.amount) lines < 2 ^ 63
