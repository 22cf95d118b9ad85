-- What the answer of a reader or a writer shows.
use Rattle.std.specs.Prelude.{◌≡◌, ℕ, Bool, false, true, ◌==◌, ◌&&◌, nat_lt, List, []}
use Rattle.std.specs.Prelude.{Option, None, Some, Result, Ok, Err}
use Rattle.std.specs.Coded.{Coded-set, coded_list, coded_ℕ, Unit-prop}
use Rattle.std.specs.Io.KnownBytes.{IsAtEnd}

-- a read failed
abbrev pub is_failed_read : {E : Type 0} → Result ℕ E → Bool
is_failed_read (Ok count) = false
is_failed_read (Err error) = true

-- a read into room for one or more bytes gave none
abbrev pub is_end : {E : Type 0} → Result ℕ E → ℕ → Bool
is_end (Ok count) room = (count == 0) && nat_lt 0 room
is_end (Err error) room = false

-- where the reader's end was met, nothing is left of a reader that shows its bytes
abbrev pub NothingUnread : Bool → Option (List ℕ) → Type 0
NothingUnread ended left = ended ≡ true → IsAtEnd left

-- there is one proof at most that nothing is left
pub at_end_once : (left : Option (List ℕ)) → IsProp (IsAtEnd left)
at_end_once None = Unit-prop
at_end_once (Some bytes) = Coded-set (coded_list coded_ℕ) bytes []

-- a write failed, or took none of one or more bytes
abbrev pub is_failed_write : {E : Type 0} → Result ℕ E → ℕ → Bool
is_failed_write (Ok count) length = (count == 0) && nat_lt 0 length
is_failed_write (Err error) length = true
