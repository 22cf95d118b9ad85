-- Runs: lists of requests, on books that calls made.
use Rattle.std.specs.Prelude.{Bool, List, ◌++◌, Result}
use Rattle.book_model.specs.declared.fault.LedgerFault.{LedgerFault}
use Rattle.book_model.specs.Words.{Naming, Book, Event, after_all, book_after, IsMadeByCalls}
use Rattle.office.specs.declared.request.Asked.{Asked}
use Rattle.office.specs.declared.request.Answer.{Answer}
use Rattle.office.specs.Runs.{Runs}

-- requests, what was answered to them, and the events that they made, the newest first
pub record Run : Type 0 where
  pub requests : List Asked
  pub answers : List (Result Answer LedgerFault)
  pub events : List Event

-- the run was on these books, which were to be reopened before it or not, and are after it or not
abbrev pub IsRunOn : Naming → Book → Bool → Run → Bool → Type 0
IsRunOn naming before was run is = Runs naming run.requests run.answers was before run.events is

-- The run came after a history that calls made: it was on the books of that history.
pub record IsRunAfter (naming : Naming) (history : List Event) (run : Run) : Type 0 where
  pub answered : IsMadeByCalls naming history
  pub was : Bool
  pub is : Bool
  pub runs : IsRunOn naming (book_after history) was run is

-- the book that the run leaves
abbrev pub book_after_run : List Event → Run → Book
book_after_run history run = after_all run.events (book_after history)

-- the history that goes on with the run
abbrev pub history_with : List Event → Run → List Event
history_with history run = run.events ++ history
