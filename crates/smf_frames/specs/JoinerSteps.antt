-- The steps of a joiner over what it holds. Words of the code alone.
use Rattle.std.specs.Prelude.{◌≡◌, ℕ, ◌≤◌, ◌<◌, true, false, if◌then◌else◌, List, [], ◌++◌, length}
use Rattle.std.specs.Prelude.{take, Option, Some, None}
use Rattle.smf_frames.specs.declared.fault.FrameFault.{FrameFault}
use Rattle.smf_frames.specs.Segment.{descriptor_len, named_len, kind_of, goes_on}
use Rattle.smf_frames.specs.Framed.{record_with}
use Rattle.smf_frames.specs.Faults.{is_block_due}
use Rattle.smf_frames.specs.Front.{joined_with, after_block, after_segment}
use Rattle.smf_frames.specs.Joining.{Joining, fault_held}

-- with more bytes held
abbrev pub holding : Joining → List ℕ → Joining
holding joining bytes = record joining { held = joining.held ++ bytes }

-- the record that a segment completes, if it does
abbrev pub made : Option (List ℕ) → List ℕ → Option (List ℕ)
made begun segment =
    if goes_on (kind_of segment) then None else Some (record_with (joined_with begun segment))

-- after the block's descriptor that is held
abbrev pub past_block : Joining → Joining
past_block joining = record {
  layout = joining.layout;
  position = after_block joining.position (named_len joining.held);
  held = [];
  ready = None;
}

-- after the segment that is held
abbrev pub past_segment : Joining → Joining
past_segment joining = record {
  layout = joining.layout;
  position = after_segment joining.position joining.held;
  held = [];
  ready = made joining.position.begun joining.held;
}

-- the descriptor of a block is held, and nothing after it
pub record HoldsBlock (joining : Joining) : Type 0 where
  pub four : length joining.held ≡ descriptor_len
  pub passes : fault_held joining ≡ None
  pub due : is_block_due joining.layout joining.position.left ≡ true

-- a segment's descriptor is held that has no fault, and perhaps bytes after it
pub record OnSegment (joining : Joining) : Type 0 where
  pub four : descriptor_len ≤ length joining.held
  pub passes : fault_held joining ≡ None
  pub due : is_block_due joining.layout joining.position.left ≡ false

-- a whole segment is held, and nothing after it
pub record HoldsSegment (joining : Joining) : Type 0 where
  pub on : OnSegment joining
  pub named : length joining.held ≡ named_len joining.held

-- less than a descriptor, or than a segment, is held, and no test speaks against it
pub record HoldsLess (joining : Joining) : Type 0 where
  pub passes : fault_held joining ≡ None
  pub less : descriptor_len ≤ length joining.held
      → (is_block_due joining.layout joining.position.left ≡ false)
      × (length joining.held < named_len joining.held)

-- a joiner with these bytes is this one, and is past a descriptor or a segment now
pub data Steps (joining : Joining) : Joining → Type 0 where
  over_block : HoldsBlock joining → Steps joining (past_block joining)
  over_segment : HoldsSegment joining → Steps joining (past_segment joining)

-- a step over the rest of a piece: all of it is held and more is to come; or as many bytes do it
abbrev pub IsStep : Joining → List ℕ → Option ℕ → Joining → Type 0
IsStep old rest None new = (new ≡ holding old rest) × HoldsLess (holding old rest)
IsStep old rest (Some n) new = (n ≤ length rest) × Steps (holding old (take n rest)) new

-- a fault at a descriptor that is whole with some bytes of the rest
pub record IsFailed (old : Joining) (rest : List ℕ) (fault : FrameFault) (new : Joining) : Type 0
  where
    pub n : ℕ
    pub is : new ≡ holding old (take n rest)
    pub fails : fault_held new ≡ Some fault
