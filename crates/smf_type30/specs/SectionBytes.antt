-- What is lent from a record, and kept of it while it is lent.
use Rattle.std.specs.Prelude.{◌≡◌, ℕ, ◌+◌, ◌≤◌, List, length, Ok}
use Rattle.smf_text.specs.Day.{IsDay}
use Rattle.smf_text.specs.PackedDate.{packed_day_of}
use Rattle.smf_frames.specs.Header.{header_of}
use Rattle.smf_frames.specs.Number.{number, part}
use Rattle.smf_type30.specs.declared.layout.Field.{Field}
use Rattle.smf_type30.specs.declared.layout.Section.{Section}
use Rattle.smf_type30.specs.declared.moment.Moment.{Moment}
use Rattle.smf_type30.specs.Class.{IsUsage}
use Rattle.smf_type30.specs.Section.{number_in, part_in}

-- what is lent has each field of the section
pub record HasFields (bytes : List ℕ) (section : Section) (lent : List ℕ) : Type 0 where
  pub long : section.least ≤ length lent
  pub numbers : (field : Field) → field.offset + field.len ≤ section.least
      → number lent field.offset field.len ≡ number_in bytes section field
  pub parts : (field : Field) → field.offset + field.len ≤ section.least
      → part lent field.offset field.len ≡ part_in bytes section field

-- a usage record, with the system, the day and the time that its header gives
pub record IsRead (bytes system : List ℕ) (moment : Moment) : Type 0 where
  pub usage : IsUsage bytes
  pub system_is : system ≡ (header_of bytes).system
  pub day : packed_day_of (header_of bytes).date ≡ Ok moment.day
  pub is_day : IsDay moment.day
  pub time : moment.time ≡ (header_of bytes).time
