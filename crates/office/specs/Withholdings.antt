-- Works that are withheld by the names of records, one change of the books after the other.
use Rattle.std.specs.Prelude.{◌≡◌, Bool, ℕ, ◌+◌, ◌-◌, List, [], ◌∷◌, sum_by, Option, Some, None, Err}
use Rattle.book_model.specs.declared.answer.Ruled.{Ruled}
use Rattle.book_model.specs.declared.answer.Ruled.TheVariants.{Already, Done}
use Rattle.book_model.specs.declared.fault.LedgerFault.{LedgerFault}
use Rattle.book_model.specs.Words.{Book, Event, Naming, Note, withhold_outcome}
use Rattle.book_core.specs.Calls.{Calls}
use Rattle.book_core.specs.Transition.{Transition, NoEvent, Then}
use Rattle.book_core.specs.Withholdings.{absent_in, done_in, told_as}
use Rattle.book_core.specs.Words.{TakesWorks}
use Rattle.book_core.specs.declared.withheld.Withheld.{Withheld}
use Rattle.office.specs.Requests.{Never}
use Rattle.office.specs.declared.withholding.WorkCounts.{WorkCounts}

-- The works of names were withheld in turn, each of the book that those before it left, and these are
-- the answers: one for each name; or those before the first refusal, after which none is withheld.
-- What is not held is answered so, and is no refusal.
abbrev pub WithholdsEach : Option Note → Naming → List (List ℕ) → List (Option Ruled)
    → Option LedgerFault → Transition
WithholdsEach said naming [] [] None = NoEvent
WithholdsEach said naming (name ∷ names) [] (Some fault) = TakesWorks naming said (name ∷ names)
    (Err fault)
WithholdsEach said naming (name ∷ names) (answer ∷ answers) refusal =
    Then (Calls (λ (ruled : Ruled). ruled) (withhold_outcome naming said name) (told_as answer))
    (WithholdsEach said naming names answers refusal)
WithholdsEach said naming names answers refusal = Never

-- an answer to a work that was withheld before counts as one
abbrev pub already_in : Option Ruled → ℕ
already_in (Some Done) = 0
already_in (Some Already) = 1
already_in None = 0

-- the counts with those of more answers
abbrev pub with_answers : WorkCounts → List (Option Ruled) → WorkCounts
with_answers counts answers = record {
  withheld = counts.withheld + sum_by done_in answers;
  already = counts.already + sum_by already_in answers;
  not_held = counts.not_held + sum_by absent_in answers;
}

-- the counts of none
abbrev pub no_works : WorkCounts
no_works = record { withheld = 0; already = 0; not_held = 0 }

-- So the works of these names were withheld, and so many answers were of each kind.
pub record WithholdsSo (said : Option Note) (naming : Naming) (names : List (List ℕ))
    (counts : WorkCounts)
    (refusal : Option LedgerFault) (was : Bool) (before : Book) (events : List Event) (is : Bool)
    : Type 0 where
  pub answers : List (Option Ruled)
  pub made : WithholdsEach said naming names answers refusal was before events is
  pub told : counts ≡ with_answers no_works answers

-- how many names were answered
abbrev pub answered : WorkCounts → ℕ
answered counts = counts.withheld + counts.already + counts.not_held

-- the counts with what one change took
abbrev pub with_taken : WorkCounts → Withheld → WorkCounts
with_taken counts told = record {
  withheld = counts.withheld + told.done;
  already = counts.already + (told.taken - (told.done + told.absent));
  not_held = counts.not_held + told.absent;
}
