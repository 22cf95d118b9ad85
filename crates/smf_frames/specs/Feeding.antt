-- What a joiner answers to a piece of a dump, and what it holds then.
use Rattle.std.specs.Prelude.{◌≡◌, ℕ, ◌≤◌, ◌<◌, ◌↔◌, false, List, ◌++◌, length, take, Some, None}
use Rattle.std.specs.Prelude.{IsSome, IfOk, IfErr, Result, Ok, Err}
use Rattle.std.specs.Option.{option_to_list}
use Rattle.smf_frames.specs.declared.fault.FrameFault.{FrameFault}
use Rattle.smf_frames.specs.Front.{front, Lasts}
use Rattle.smf_frames.specs.Joining.{Joining, HasTaken, fault_held, broken_by, bytes_seen}

-- a joiner got a piece, and gave this answer
pub record Feeds (old : Joining) (piece : List ℕ) (answer : Result ℕ FrameFault)
    (new : Joining) : Type 0 where
  -- while a record stands, nothing is taken
  pub waits : IsSome old.ready → (answer ≡ Ok 0) × (new ≡ old)
  -- the answer is how many bytes of the piece were taken
  pub within : IfOk answer (λ n. n ≤ length piece)
  pub layout_stays : new.layout ≡ old.layout
  -- it stands after what it took, and after all of the piece where it answers a fault
  pub stands : (text : List ℕ) → HasTaken text old
      → HasTaken (text ++ bytes_seen answer piece) new
  -- what it took completes the record that stands now, or none
  pub records : (text : List ℕ) → HasTaken text old → old.ready ≡ None
      → (front old.layout (text ++ bytes_seen answer piece)).records
      ≡ (front old.layout text).records ++ option_to_list new.ready
  -- fewer bytes complete none
  pub soonest : IfOk answer (λ n. (text : List ℕ) (k : ℕ) → HasTaken text old → k < n
      → (front old.layout (text ++ take k piece)).records ≡ (front old.layout text).records)
  -- where none stands now, all of the piece was taken
  pub all : IfOk answer (λ n. new.ready ≡ None → n ≡ length piece)
  -- a record that stands only now took bytes
  pub moves : IfOk answer (λ n. (text : List ℕ) → HasTaken text old → old.ready ≡ None
      → IsSome new.ready → 0 < n)
  -- it answers a fault exactly where that breaks the front of the piece at a descriptor
  pub fault : (text : List ℕ) (fault : FrameFault) → HasTaken text old → old.ready ≡ None
      → (answer ≡ Err fault)
      ↔ (front old.layout (text ++ piece) ≡ broken_by (front old.layout text).records fault)
  -- where no record stands and none is answered, no fault at a descriptor is there
  pub unbroken : IfOk answer (λ _. (text : List ℕ) → HasTaken text old → new.ready ≡ None
      → (front old.layout (text ++ piece)).is_broken ≡ false)
  -- that fault stays, whatever bytes follow the piece
  pub lasting : IfErr answer (λ _. (text : List ℕ) → HasTaken text old → old.ready ≡ None
      → Lasts old.layout (text ++ piece))
  -- a fault at the descriptor that is held is answered to every piece
  pub for_good : (fault : FrameFault) → fault_held old ≡ Some fault → old.ready ≡ None
      → answer ≡ Err fault
  -- and after a fault it is held, and no record stands
  pub broken : IfErr answer (λ fault. (fault_held new ≡ Some fault) × (new.ready ≡ None))

-- The clauses leave no choice: two joiners in which no record stands, and which stand after one
-- text, answer alike to a piece, and the same record stands then.
abbrev pub FeedIsDetermined : Type 0
FeedIsDetermined = (text piece : List ℕ) (one other one_now other_now : Joining)
    (answer other_answer : Result ℕ FrameFault)
    → one.layout ≡ other.layout → HasTaken text one → HasTaken text other
    → one.ready ≡ None → other.ready ≡ None
    → Feeds one piece answer one_now → Feeds other piece other_answer other_now
    → (answer ≡ other_answer) × (one_now.ready ≡ other_now.ready)
