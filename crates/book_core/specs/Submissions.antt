-- Records that are submitted together, and what one change of the books takes of them.
use Rattle.std.specs.Prelude.{◌≡◌, Bool, false, true, ℕ, List, [], ◌∷◌, map, Result, Ok, Err, Vec}
use Rattle.std.specs.Prelude.{◌==◌, length, Option}
use Rattle.std.specs.Global.{Global}
use Rattle.book_model.specs.declared.answer.Accepted.{Accepted}
use Rattle.book_model.specs.declared.fault.LedgerFault.{LedgerFault}
use Rattle.book_model.specs.declared.fault.LedgerFault.TheVariants.{Store}
use Rattle.book_model.specs.declared.note.Share.{Share}
use Rattle.book_model.specs.Words.{Book, Event, Naming, accept_outcome, told_by}
use Rattle.book_core.specs.Transition.{Transition, NoEvent, Then}
use Rattle.book_core.specs.Calls.{Calls}

-- the bytes of records
abbrev pub records_in : List (Vec ℕ Global) → List (List ℕ)
records_in records = map (λ (one : Vec ℕ Global). one.items) records

-- The first of the records were submitted one after another, each in a call of its own, and these
-- are the answers: none was refused.
abbrev pub Accepts : Naming → List (List ℕ) → List Accepted → Transition
Accepts naming records [] = NoEvent
Accepts naming [] (answer ∷ later) = λ was before events is. ⊥
Accepts naming (bytes ∷ rest) (answer ∷ later) =
    Then (Calls (λ (accepted : Accepted). accepted) (accept_outcome naming bytes) (Ok answer))
    (Accepts naming rest later)

-- The store of open books failed: the first of the records were accepted, all, some or none of them.
pub record KeepsFirst (naming : Naming) (records : List (List ℕ)) (was : Bool) (before : Book)
    (events : List Event) (is : Bool) : Type 0 where
  pub was_open : was ≡ false
  pub closed : is ≡ true
  pub answers : List Accepted
  pub kept : Accepts naming records answers false before events false

-- the first of some records
abbrev pub first_of : List (List ℕ) → List ℕ
first_of [] = []
first_of (bytes ∷ rest) = bytes

-- The change took the first of the records, and each was answered as a call of its own would answer
-- it. Or it took none: then the fault is the one that a call answers to the first of them. After a
-- fault of the store only the next open shows how many it took.
abbrev pub Takes : Naming → List (List ℕ) → Result (Vec Accepted Global) LedgerFault → Transition
Takes naming records (Ok answers) = Accepts naming records answers.items
Takes naming records (Err Store) = KeepsFirst naming records
Takes naming records (Err fault) =
    Calls (λ (accepted : Accepted). accepted) (accept_outcome naming (first_of records)) (Err fault)

-- The first of the records were accepted; and with those that were kept comes, in the same change,
-- what their import says of itself. Where none was kept, nothing is said.
pub record AcceptsOf (naming : Naming) (import : Option Share) (records : List (List ℕ))
    (answers : List Accepted) (was : Bool) (before : Book) (events : List Event) (is : Bool)
    : Type 0 where
  pub kept : List Event
  pub accepts : Accepts naming records answers was before kept is
  pub told : events ≡ told_by import (length answers == length records) answers kept

-- the store of open books failed: all of that change was made, or none of it
pub record KeepsFirstOf (naming : Naming) (import : Option Share) (records : List (List ℕ))
    (was : Bool) (before : Book) (events : List Event) (is : Bool) : Type 0 where
  pub was_open : was ≡ false
  pub closed : is ≡ true
  pub answers : List Accepted
  pub kept : AcceptsOf naming import records answers false before events false

-- The change took the first of the records, or none, as of records without an import.
abbrev pub TakesOf : Naming → Option Share → List (List ℕ)
    → Result (Vec Accepted Global) LedgerFault → Transition
TakesOf naming import records (Ok answers) = AcceptsOf naming import records answers.items
TakesOf naming import records (Err Store) = KeepsFirstOf naming import records
TakesOf naming import records (Err fault) =
    Calls (λ (accepted : Accepted). accepted) (accept_outcome naming (first_of records)) (Err fault)
