-- A dump that comes in pieces: what a joiner holds of it, and after which bytes it stands.
use Rattle.std.specs.Prelude.{◌≡◌, ℕ, true, false, List, [], ◌∷◌, ◌++◌, take, Option, Some, None}
use Rattle.std.specs.Prelude.{IfSome, Result, Ok, Err}
use Rattle.smf_frames.specs.declared.dump.Layout.{Layout}
use Rattle.smf_frames.specs.declared.fault.FrameFault.{FrameFault}
use Rattle.smf_frames.specs.declared.next.Next.{Next}
use Rattle.smf_frames.specs.declared.next.Next.TheVariants.{Stops}
use Rattle.smf_frames.specs.Faults.{descriptor_fault}
use Rattle.smf_frames.specs.Front.{Front, Progress, start, data_len, next_of, prepend, front_from}
use Rattle.smf_frames.specs.Front.{front}

-- What a joiner holds: the place where it is in the middle of a dump (the data of the record
-- that is begun, and what is left of the block); the bytes after that place that it holds, of a
-- descriptor or a segment that is not whole yet; and the record that stands, if one does, until it
-- is released.
pub record Joining : Type 0 where
  pub layout : Layout
  pub position : Progress
  pub held : List ℕ
  pub ready : Option (List ℕ)

-- nothing has come yet
abbrev pub nothing_joined : Layout → Joining
nothing_joined layout = record { layout = layout; position = start; held = []; ready = None }

-- what comes at the start of the bytes held: where it stops, nothing of them is whole
abbrev pub next_held : Joining → Next
next_held joining =
    next_of joining.layout (data_len joining.position.begun) joining.position.left joining.held

-- the fault at the descriptor that is held, if it has one: no bytes that follow could mend it
abbrev pub fault_held : Joining → Option FrameFault
fault_held joining = descriptor_fault joining.layout (data_len joining.position.begun)
    joining.position.left joining.held

-- a record that stands is the last of these, and nothing is held after it
abbrev pub ReadyIsLast : List (List ℕ) → Joining → Type 0
ReadyIsLast records joining = IfSome joining.ready (λ one.
    (joining.held ≡ []) × (earlier : List (List ℕ)) × (records ≡ earlier ++ one ∷ []))

-- The joiner stands after this text. Whatever bytes follow, the records of the text come first, and
-- then the front of what is held and what follows, from the place where the joiner stands. A record
-- that stands is the last of the text's, and nothing is held after it.
pub record HasTaken (text : List ℕ) (joining : Joining) : Type 0 where
  pub goes_on : (more : List ℕ) → front joining.layout (text ++ more)
      ≡ prepend (front joining.layout text).records
      (front_from joining.layout joining.position (joining.held ++ more))
  pub waits : next_held joining ≡ Stops
  pub stands : ReadyIsLast (front joining.layout text).records joining

-- the front of nothing
abbrev pub nothing_found : Front
nothing_found = record { records = []; fault = None; is_broken = false }

-- the front with these records that a descriptor's fault breaks
abbrev pub broken_by : List (List ℕ) → FrameFault → Front
broken_by records fault = record { records = records; fault = Some fault; is_broken = true }

-- the fault that is answered, if one is
abbrev pub fault_in : Result Unit FrameFault → Option FrameFault
fault_in (Ok done) = None
fault_in (Err fault) = Some fault

-- the bytes of a piece after which a joiner stands: those it took, or all where it answers a fault
abbrev pub bytes_seen : Result ℕ FrameFault → List ℕ → List ℕ
bytes_seen (Ok n) piece = take n piece
bytes_seen (Err fault) piece = piece

-- the record that stands, if one does, has been released
abbrev pub released : Joining → Joining
released joining = record joining { ready = None }
