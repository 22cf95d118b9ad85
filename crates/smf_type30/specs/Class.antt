-- The class of a record: what it is for the office (SA38-0667, types 2, 3, 7 and 30).
use Rattle.std.specs.Prelude.{◌≡◌, ℕ, ◌==◌, ◌&&◌, ◌||◌, not, Bool, nat_lt, if◌then◌else◌, List}
use Rattle.std.specs.Prelude.{length, Option, Some, None, is_err, is_none}
use Rattle.std.specs.Option.{option_or}
use Rattle.smf_text.specs.PackedDate.{packed_day_of}
use Rattle.smf_frames.specs.Header.{header_len, header_of}
use Rattle.smf_frames.specs.declared.header.Header.{Header}
use Rattle.smf_type30.specs.Layout.{dump_header, dump_trailer, data_lost, work, step_end, job_end}
use Rattle.smf_type30.specs.Layout.{subtype_end, triplets_end, hundredths_per_day, identification}
use Rattle.smf_type30.specs.Layout.{processor, io_activity, completion}
use Rattle.smf_type30.specs.declared.record_class.Class.{Class}
use Rattle.smf_type30.specs.declared.record_class.Class.TheVariants.{DumpHeader, DumpTrailer, DataLost}
use Rattle.smf_type30.specs.declared.record_class.Class.TheVariants.{Other, Continuation, Usage, Damaged}
use Rattle.smf_type30.specs.declared.damage.Damage.{Damage}
use Rattle.smf_type30.specs.declared.damage.Damage.TheVariants.{Short, Date, Time, NoIdentification}
use Rattle.smf_type30.specs.declared.damage.Damage.TheVariants.{Identification, Processor}
use Rattle.smf_type30.specs.declared.damage.Damage.TheVariants.{InputOutput, Completion, Accounting}
use Rattle.smf_type30.specs.Section.{fits, count_of}
use Rattle.smf_type30.specs.Usage.{subtype_of, accounts_of}

-- the record's type, by its header
abbrev pub type_of : List ℕ → ℕ
type_of bytes = (header_of bytes).kind

-- the first damage of a header: its date is no day, or its time no time of day
unfoldable pub header_damage : Header → Option Damage
header_damage header =
    if is_err (packed_day_of header.date) then Some Date
    else if not (nat_lt header.time hundredths_per_day) then Some Time
    else None

-- the first damage of the sections: the record has to have an identification section, and any other
-- section that is there fits
unfoldable pub section_damage : List ℕ → Option Damage
section_damage bytes =
    if count_of bytes identification == 0 then Some NoIdentification
    else if not (fits bytes identification) then Some Identification
    else if not (fits bytes processor) then Some Processor
    else if not (fits bytes io_activity) then Some InputOutput
    else if not (fits bytes completion) then Some Completion
    else if is_none (accounts_of bytes) then Some Accounting
    else None

-- the first damage of a work record that measures CPU time: of its header, or else of its sections
unfoldable pub damage_of : List ℕ → Option Damage
damage_of bytes = option_or (header_damage (header_of bytes)) (section_damage bytes)

-- a record is usage where it has no damage
abbrev pub usage_unless : Option Damage → Class
usage_unless None = Usage
usage_unless (Some damage) = Damaged damage

-- the class of a record of type 30. One that measures no CPU time, as the number of its processor
-- sections is 0, is a continuation: a word of this project, which does not ask what it continues
unfoldable pub class_of_work : List ℕ → Class
class_of_work bytes =
    if nat_lt (length bytes) subtype_end then Damaged Short
    else if not (subtype_of bytes == step_end || subtype_of bytes == job_end) then Other
    else if nat_lt (length bytes) triplets_end then Damaged Short
    else if count_of bytes processor == 0 then Continuation
    else usage_unless (damage_of bytes)

-- the class of a record, the first that applies; a short record is one that lacks a whole header
unfoldable pub class_of : List ℕ → Class
class_of bytes =
    if nat_lt (length bytes) header_len then Damaged Short
    else if type_of bytes == dump_header then DumpHeader
    else if type_of bytes == dump_trailer then DumpTrailer
    else if type_of bytes == data_lost then DataLost
    else if type_of bytes == work then class_of_work bytes
    else Other

-- a record that can be charged
abbrev pub IsUsage : List ℕ → Type 0
IsUsage bytes = class_of bytes ≡ Usage

-- the record is of type 30, ends a step or a job, and measures CPU time
unfoldable pub measures_work : List ℕ → Bool
measures_work bytes =
    type_of bytes == work
    && (subtype_of bytes == step_end || subtype_of bytes == job_end)
    && not (count_of bytes processor == 0)

-- why a record cannot be read that measures work, if it is long enough to say so
abbrev pub read_fault : List ℕ → Option Damage
read_fault bytes = if nat_lt (length bytes) triplets_end then Some Short else damage_of bytes
