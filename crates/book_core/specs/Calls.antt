-- One call of a ledger: what it answers, and what it does to the books.
use Rattle.std.specs.Prelude.{◌≡◌, ◌⊎◌, ◌||◌, Bool, true, false, List, [], ◌∷◌, Option, None, Some}
use Rattle.std.specs.Prelude.{Result, Ok, Err}
use Rattle.book_model.specs.declared.fault.LedgerFault.{LedgerFault}
use Rattle.book_model.specs.declared.fault.LedgerFault.TheVariants.{Memory, Store, Reopen}
use Rattle.book_model.specs.Words.{Book, Event, Outcome}
use Rattle.book_core.specs.Ledgers.{Seen}
use Rattle.book_core.specs.Transition.{IsTransition}

-- the events of an outcome: the one that it is, or none
abbrev pub listed : Option Event → List Event
listed None = []
listed (Some event) = event ∷ []

-- The call answered as the outcome says, by a view of what it returns, and made the outcome's
-- event, its one commit. A lack of memory, a fault of the store or Reopen may replace any answer;
-- of a fault of the store only the next open shows whether the event was made. A refusal makes
-- none.
abbrev pub Makes : {V A : Type 0} → (V → A) → Outcome A → Result V LedgerFault → List Event → Type 0
Makes view outcome (Ok value) events =
    (outcome.answer ≡ Ok (view value)) × (events ≡ listed outcome.event)
Makes view outcome (Err Memory) events = events ≡ []
Makes view outcome (Err Store) events = (events ≡ []) ⊎ (events ≡ listed outcome.event)
Makes view outcome (Err Reopen) events = events ≡ []
Makes view outcome (Err fault) events = (outcome.answer ≡ Err fault) × (events ≡ [])

-- the store failed
abbrev pub is_store : {V : Type 0} → Result V LedgerFault → Bool
is_store (Err Store) = true
is_store result = false

-- the ledger is to be reopened
abbrev pub is_reopen : {V : Type 0} → Result V LedgerFault → Bool
is_reopen (Err Reopen) = true
is_reopen result = false

-- an answer that leaves open books open
pub record LeavesOpen {V : Type 0} (answer : Result V LedgerFault) : Type 0 where
  pub stored : is_store answer ≡ false
  pub served : is_reopen answer ≡ false

-- A call answers Reopen exactly where the ledger is to be reopened, as it is from the first fault
-- of the store on.
pub record Reopens {V : Type 0} (result : Result V LedgerFault) (was is : Bool) : Type 0 where
  pub reopen : is_reopen result ≡ was
  pub store : is ≡ (was || is_store result)

-- the call as work: what it answered and made, by the book before it
pub record Calls {V A : Type 0} (view : V → A) (outcome : Book → Outcome A)
    (result : Result V LedgerFault) (was : Bool) (before : Book) (events : List Event) (is : Bool)
    : Type 0 where
  pub makes : Makes view (outcome before) result events
  pub reopens : Reopens result was is

-- One call of a ledger: the one that the definitions say of the book before it.
pub record IsCall {V A : Type 0} (view : V → A) (old new : Seen) (result : Result V LedgerFault)
    (outcome : Book → Outcome A) : Type 0 where
  pub work : IsTransition old new (Calls view outcome result)
  pub reopens : Reopens result old.must_reopen new.must_reopen
