-- Works that are withheld together, and what one change of the books takes of them.
use Rattle.std.specs.Prelude.{◌≡◌, ℕ, ◌+◌, Bool, false, true, List, [], ◌∷◌, length, sum_by}
use Rattle.std.specs.Prelude.{Option, Some, None, Result, Ok, Err}
use Rattle.book_model.specs.declared.answer.Ruled.{Ruled}
use Rattle.book_model.specs.declared.answer.Ruled.TheVariants.{Already, Done}
use Rattle.book_model.specs.declared.fault.LedgerFault.{LedgerFault}
use Rattle.book_model.specs.declared.fault.LedgerFault.TheVariants.{NoSuchRecord, Store}
use Rattle.book_model.specs.Words.{Book, Event, Naming, Note, withhold_outcome}
use Rattle.book_core.specs.Calls.{Calls}
use Rattle.book_core.specs.Submissions.{first_of}
use Rattle.book_core.specs.Transition.{Transition, NoEvent, Then}
use Rattle.book_core.specs.declared.withheld.Withheld.{Withheld}

-- no record of the name is held
abbrev pub is_not_held : LedgerFault → Bool
is_not_held NoSuchRecord = true
is_not_held fault = false

-- what a call of its own says of a work: that it is withheld, or that its record is not held
abbrev pub told_as : Option Ruled → Result Ruled LedgerFault
told_as (Some ruled) = Ok ruled
told_as None = Err NoSuchRecord

-- The works of the records of the first of these names were withheld one after another, each in a
-- call of its own, and these are the answers. What is not held was passed over, and nothing else was
-- refused.
abbrev pub Withholds : Naming → Option Note → List (List ℕ) → List (Option Ruled) → Transition
Withholds naming noted names [] = NoEvent
Withholds naming noted [] (answer ∷ later) = λ was before events is. ⊥
Withholds naming noted (name ∷ rest) (answer ∷ later) =
    Then (Calls (λ (ruled : Ruled). ruled) (withhold_outcome naming noted name) (told_as answer))
    (Withholds naming noted rest later)

-- an answer to a work that was not withheld before counts as one, and so does a record that is not held
abbrev pub done_in : Option Ruled → ℕ
done_in (Some Done) = 1
done_in (Some Already) = 0
done_in None = 0

abbrev pub absent_in : Option Ruled → ℕ
absent_in (Some ruled) = 0
absent_in None = 1

-- how many names were answered, of how many works that were not withheld before, and of how many records
-- that are not held
abbrev pub withheld_of : List (Option Ruled) → Withheld
withheld_of answers = record {
  taken = length answers;
  done = sum_by done_in answers;
  absent = sum_by absent_in answers;
}

-- the same with one more answer
abbrev pub with_answer : Withheld → Option Ruled → Withheld
with_answer told answer = record {
  taken = told.taken + 1;
  done = told.done + done_in answer;
  absent = told.absent + absent_in answer;
}

-- so many were answered
pub record TakesSome (naming : Naming) (noted : Option Note) (names : List (List ℕ)) (told : Withheld) (was : Bool)
    (before : Book) (events : List Event) (is : Bool) : Type 0 where
  pub answers : List (Option Ruled)
  pub made : Withholds naming noted names answers was before events is
  pub counts : told ≡ withheld_of answers

-- The store of open books failed: the works of the first of the names were withheld, all, some or none.
pub record KeepsWithheld (naming : Naming) (noted : Option Note) (names : List (List ℕ)) (was : Bool) (before : Book)
    (events : List Event) (is : Bool) : Type 0 where
  pub was_open : was ≡ false
  pub closed : is ≡ true
  pub answers : List (Option Ruled)
  pub kept : Withholds naming noted names answers false before events false

-- The change withheld the works of the first of the names, and each was answered as a call of its own
-- would answer it. Or it withheld none: then the fault is the one that a call answers to the first of
-- them, whose record is held. After a fault of the store only the next open shows how many it withheld.
abbrev pub TakesWorks : Naming → Option Note → List (List ℕ) → Result Withheld LedgerFault → Transition
TakesWorks naming noted names (Ok told) = TakesSome naming noted names told
TakesWorks naming noted names (Err Store) = KeepsWithheld naming noted names
TakesWorks naming noted names (Err NoSuchRecord) = λ was before events is. ⊥
TakesWorks naming noted names (Err fault) =
    Calls (λ (ruled : Ruled). ruled) (withhold_outcome naming noted (first_of names)) (Err fault)
