-- The fields of a joiner, as the definitions see them. Words of the code alone.
use Rattle.std.specs.Prelude.{◌≡◌, ℕ, ◌+◌, ◌-◌, ◌≤◌, ◌<◌, Bool, true, false, if◌then◌else◌, List}
use Rattle.std.specs.Prelude.{◌++◌, length, take, drop, Option, Some, None}
use Rattle.smf_frames.specs.declared.dump.Layout.{Layout}
use Rattle.smf_frames.specs.Segment.{descriptor_len, named_len}
use Rattle.smf_frames.specs.Framed.{most_data, data_of}
use Rattle.smf_frames.specs.Faults.{is_block_due}
use Rattle.smf_frames.specs.Joining.{Joining}

-- The fields, and how many bytes there is room for. What is joined has room for a descriptor, then
-- the data of the record that is begun, up to the mark, and then the data of a begun segment. Its
-- descriptor is kept apart: this is how many of its bytes have come.
pub record Fields : Type 0 where
  pub layout : Layout
  pub left : Option ℕ
  pub is_begun : Bool
  pub joined : List ℕ
  pub data_end : ℕ
  pub descriptor : List ℕ
  pub received : ℕ
  pub stands : Bool
  pub room : ℕ

-- the data of the record that is begun, if one is
abbrev pub begun_in : Fields → Option (List ℕ)
begun_in fields =
    if fields.is_begun then Some (data_of (take fields.data_end fields.joined)) else None

-- the bytes of what is begun: those of its descriptor, and its data
abbrev pub pending_bytes : Fields → List ℕ
pending_bytes fields = take fields.received fields.descriptor ++ drop fields.data_end fields.joined

-- what a joiner with these fields holds
abbrev pub joining_in : Fields → Joining
joining_in fields = record {
  layout = fields.layout;
  position = record { begun = begun_in fields; left = fields.left };
  held = pending_bytes fields;
  ready = if fields.stands then Some fields.joined else None;
}

-- what is true of the fields of each joiner
pub record Invariant (fields : Fields) : Type 0 where
  -- there is room for the longest record
  pub room : most_data + descriptor_len ≤ fields.room
  -- the data of the record that is begun ends at the mark; where none is begun, it has none
  pub behind : descriptor_len ≤ fields.data_end
  pub marked : fields.data_end ≤ length fields.joined
  pub short : fields.data_end ≤ most_data + descriptor_len
  pub fresh : fields.is_begun ≡ false → fields.stands ≡ false → fields.data_end ≡ descriptor_len
  pub four : length fields.descriptor ≡ descriptor_len
  -- data of a segment is there only after its descriptor, and no more than that names
  pub received_four : fields.received ≤ descriptor_len
  pub whole : fields.data_end < length fields.joined → fields.received ≡ descriptor_len
  pub due : is_block_due fields.layout fields.left ≡ true → fields.data_end ≡ length fields.joined
  pub fits : length fields.joined
      ≤ fields.data_end + (named_len fields.descriptor - descriptor_len)
  -- a record stands alone
  pub alone : fields.stands ≡ true
      → (fields.is_begun ≡ false) × (fields.data_end ≡ length fields.joined) × (fields.received ≡ 0)
