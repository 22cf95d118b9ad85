-- Answers of a ledger, where memory may run out.
use Rattle.std.specs.Prelude.{◌≡◌, Option, None, Result, Ok, Err}
use Rattle.book_model.specs.declared.fault.LedgerFault.{LedgerFault}
use Rattle.book_model.specs.declared.fault.LedgerFault.TheVariants.{Memory}
use Rattle.book_model.specs.Books.{Book}
use Rattle.book_model.specs.Events.{Event, after_any}
use Rattle.book_model.specs.Outcomes.{Outcome}

-- a call answered this, by a view of what it returns; or memory ran out, which may replace any
-- answer
abbrev pub Answers : {V A : Type 0} → (V → A) → Result V LedgerFault → Result A LedgerFault → Type 0
Answers view (Ok value) answer = answer ≡ Ok (view value)
Answers view (Err Memory) answer = Unit {0}
Answers view (Err fault) answer = answer ≡ Err fault

-- the event of a call: the outcome's where the call answered, none where it refused
abbrev pub event_of : {V A : Type 0} → Result V LedgerFault → Outcome A → Option Event
event_of (Ok value) outcome = outcome.event
event_of (Err fault) outcome = None

-- A call on a book: it answered as the outcome says, by a view of what it returns, and its event is
-- what changed of the book; or memory ran out, and nothing changed.
pub record IsBookCall {V A : Type 0} (view : V → A) (old new : Book) (result : Result V LedgerFault)
    (outcome : Book → Outcome A) : Type 0 where
  pub answer : Answers view result (outcome old).answer
  pub book : new ≡ after_any (event_of result (outcome old)) old
