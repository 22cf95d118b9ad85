-- The sections of a work record (SA38-0667, type 30). A triplet in the header says where a section
-- is in the record (4 bytes), how long it is (2) and how many there are (2).
use Rattle.std.specs.Prelude.{ℕ, ◌+◌, ◌≤◌, ◌==◌, ◌&&◌, ◌||◌, Bool, nat_le, List, length}
use Rattle.smf_frames.specs.Number.{number, part}
use Rattle.smf_type30.specs.declared.layout.Field.{Field}
use Rattle.smf_type30.specs.declared.layout.Section.{Section}
use Rattle.smf_type30.specs.Layout.{triplet_length}

-- the record is long enough to have the section's triplet
abbrev pub HasTriplet : List ℕ → Section → Type 0
HasTriplet bytes section = section.triplet + triplet_length ≤ length bytes

abbrev pub offset_of : List ℕ → Section → ℕ
offset_of bytes section = number bytes section.triplet 4

abbrev pub length_of : List ℕ → Section → ℕ
length_of bytes section = number bytes (section.triplet + 4) 2

abbrev pub count_of : List ℕ → Section → ℕ
count_of bytes section = number bytes (section.triplet + 6) 2

-- a section that is there is as long as its fields need, and ends inside the record
abbrev pub fits : List ℕ → Section → Bool
fits bytes section =
    count_of bytes section == 0
    || nat_le section.least (length_of bytes section)
    && nat_le (offset_of bytes section + length_of bytes section) (length bytes)

-- the number in a field of a section
abbrev pub number_in : List ℕ → Section → Field → ℕ
number_in bytes section field = number bytes (offset_of bytes section + field.offset) field.len

-- the bytes of a field of a section
abbrev pub part_in : List ℕ → Section → Field → List ℕ
part_in bytes section field = part bytes (offset_of bytes section + field.offset) field.len
