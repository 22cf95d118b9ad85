-- A dump that is read in one layout, and looks like one in the other.
use Rattle.std.specs.Prelude.{◌≡◌, ℕ, ◌<◌, ◌&&◌, nat_lt, not, Bool, true, false, List, ◌++◌, length}
use Rattle.std.specs.Prelude.{slice_get, Option, Some, None, IsSome}
use Rattle.smf_frames.specs.declared.fault.FrameFault.TheVariants.{MissingLast}
use Rattle.smf_frames.specs.Segment.{descriptor_len}
use Rattle.smf_frames.specs.Lawful.{MayGoOn}
use Rattle.book_model.specs.Words.{Layout, Rdw, Bdw, FrameFault, Front, front}

-- a record is begun, and nothing follows of it
abbrev pub is_begun : FrameFault → Bool
is_begun MissingLast = true
is_begun fault = false

-- a dump ends with a whole segment: it has no fault, or lacks but the rest of its last record
abbrev pub ends_segment : Option FrameFault → Bool
ends_segment None = true
ends_segment (Some fault) = is_begun fault

-- whole segments, one after another up to the end of the bytes
abbrev pub is_filled : Front → Bool
is_filled found = not found.is_broken && ends_segment found.fault

-- Bytes look like a dump in a layout: they are more than a descriptor, and segments fill them exactly.
-- The last of the records may go on after them.
abbrev pub looks_like : Layout → List ℕ → Bool
looks_like layout bytes = nat_lt descriptor_len (length bytes) && is_filled (front layout bytes)

-- the same by the standard's grammar: they may go on, and no block is begun
pub record IsDumpIn (layout : Layout) (bytes : List ℕ) : Type 0 where
  pub some : descriptor_len < length bytes
  pub may : MayGoOn layout bytes
  pub whole : may.left ≡ None

-- what was taken for a record looks like a block
abbrev pub is_block : Option (List ℕ) → Bool
is_block None = false
is_block (Some bytes) = looks_like Bdw bytes

-- what is taken for the first record of a dump, if it has one
abbrev pub first_record : Layout → List ℕ → Option (List ℕ)
first_record layout bytes = slice_get (front layout bytes).records 0

-- A dump that is read as segments has blocks: what is taken for its first record is a block with all
-- of its segments. Of the other mistake a frame fault tells.
abbrev pub is_misread : Layout → List ℕ → Bool
is_misread Rdw bytes = is_block (first_record Rdw bytes)
is_misread Bdw bytes = false

-- the same by the standard's grammar: what is taken for the first record of segments is a dump in
-- blocks
pub record HasBlockFirst (layout : Layout) (bytes : List ℕ) : Type 0 where
  pub segments : layout ≡ Rdw
  pub first : List ℕ
  pub there : first_record layout bytes ≡ Some first
  pub block : IsDumpIn Bdw first

-- So the first bytes of a dump tell, once its first record is among them, whatever follows.
abbrev pub FirstBytesTell : Layout → List ℕ → Bool → Type 0
FirstBytesTell layout bytes is = IsSome (first_record layout bytes)
    → (more : List ℕ) → is_misread layout (bytes ++ more) ≡ is
