-- What calls on one ledger, one after another, leave of it.
use Rattle.std.specs.Prelude.{false, List, ◌++◌}
use Rattle.book_model.specs.Words.{IsMadeByCalls, Event, book_after, Naming}
use Rattle.book_core.specs.Ledgers.{Seen, IsOpenAt}
use Rattle.office.specs.Laws.{IsStillOpen}
use Rattle.book_laws.specs.Calls.{Call, Step, AreDone, calls_of, ledger_after_calls, works_of}

-- The calls made these events, the newest first, and the ledger is open at the books of the history
-- that goes on with them.
pub record LeaveBooks (naming : Naming) (start : List Event) (calls : List Call) (after : Seen)
    : Type 0 where
  pub events : List Event
  pub made : works_of naming calls false (book_after start) events false
  pub answered : IsMadeByCalls naming (events ++ start)
  pub left : IsOpenAt naming (book_after (events ++ start)) after

-- Calls on the books of a history that calls made leave the books of one that goes on with it.
abbrev pub CallsFollowHistory : {L : Type 0} → (L → Seen) → Type 0
CallsFollowHistory {L} seen =
    (naming : Naming) (start : List Event) (before : L) (steps : List (Step L))
    → IsMadeByCalls naming start → IsOpenAt naming (book_after start) (seen before)
    → AreDone seen before steps → IsStillOpen (seen (ledger_after_calls before steps))
    → LeaveBooks naming start (calls_of steps) (seen (ledger_after_calls before steps))
