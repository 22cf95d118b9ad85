-- Choices, one after the other, up to the first refusal.
use Rattle.std.specs.Prelude.{Bool, true, false, ℕ, List, [], ◌∷◌, ◌++◌, Option, Some, None}
use Rattle.std.specs.Prelude.{Result, Ok, Err}
use Rattle.std.specs.List.{flat_map}
use Rattle.book_model.specs.declared.answer.Ruled.{Ruled}
use Rattle.book_model.specs.declared.fault.LedgerFault.{LedgerFault}
use Rattle.book_model.specs.declared.fault.LedgerFault.TheVariants.{Memory, Store}
use Rattle.book_model.specs.Words.{Book, ChoiceAsked, Event, Naming, Note, Outcome, RulingAsked}
use Rattle.book_model.specs.Words.{WithholdingAsked, after_all, rule_outcome}
use Rattle.book_core.specs.Calls.{Calls, listed}
use Rattle.book_core.specs.Transition.{Transition, NoEvent, Then}
use Rattle.office.specs.Answers.{answer_text}
use Rattle.office.specs.Requests.{Never, Ruling}

-- what is asked for by the name of a record: that it is chosen, or that its work is withheld
abbrev pub choice_asked : Bool → List ℕ → RulingAsked
choice_asked true name = WithholdingAsked name
choice_asked false name = ChoiceAsked name

abbrev pub named_outcome : Option Note → Bool → Naming → List ℕ → Book → Outcome Ruled
named_outcome said withheld naming name = rule_outcome naming said (choice_asked withheld name)

-- the record of a name was chosen, or its work withheld, and that is the answer
abbrev pub Chooses : Option Note → Bool → Naming → List ℕ → Result Ruled LedgerFault → Transition
Chooses said withheld naming name told = Calls (λ ruled. ruled)
    (named_outcome said withheld naming name) told

-- The records of names were chosen in turn, each of the book that those before it left, and these are
-- the answers: one for each name; or those before the first refusal, after which none is chosen.
abbrev pub ChoosesEach : Option Note → Bool → Naming → List (List ℕ) → List Ruled
    → Option LedgerFault
    → Transition
ChoosesEach said withheld naming [] [] None = NoEvent
ChoosesEach said withheld naming (name ∷ names) [] (Some refusal) = Chooses said withheld naming
    name (Err refusal)
ChoosesEach said withheld naming (name ∷ names) (ruled ∷ answers) refusal =
    Then (Chooses said withheld naming name (Ok ruled)) (ChoosesEach said withheld naming names
    answers refusal)
ChoosesEach said withheld naming names answers refusal = Never

-- a line for each answer
abbrev pub answer_lines : List Ruled → List ℕ
answer_lines answers = flat_map (λ ruled. answer_text (Ruling ruled)) answers

-- what choices come to, and the events that they make, the newest first
pub record ChoicesOutcome : Type 0 where
  pub answers : List Ruled
  pub refusal : Option LedgerFault
  pub events : List Event

-- one answer, with its event, and then those of later choices; or a refusal
abbrev pub choices_by : Result Ruled LedgerFault → List Event → ChoicesOutcome → ChoicesOutcome
choices_by (Ok ruled) event later = record {
  answers = ruled ∷ later.answers;
  refusal = later.refusal;
  events = later.events ++ event;
}
choices_by (Err refusal) event later = record { answers = []; refusal = Some refusal; events = [] }

-- one choice, and those that are made of the book that it leaves
abbrev pub choices_after : Outcome Ruled → Book → (Book → ChoicesOutcome) → ChoicesOutcome
choices_after outcome book later =
    let event = listed outcome.event in
    choices_by outcome.answer event (later (after_all event book))

-- what the definitions say of choices, by the book before them
abbrev pub choices_outcome : Option Note → Bool → Naming → List (List ℕ) → Book → ChoicesOutcome
choices_outcome said withheld naming [] book = record { answers = []; refusal = None; events = [] }
choices_outcome said withheld naming (name ∷ names) book =
    choices_after (named_outcome said withheld naming name book) book
    (choices_outcome said withheld naming names)

-- a lack of memory, or a fault of the store, is in place of an answer
abbrev pub are_hindered : Option LedgerFault → Bool
are_hindered (Some Memory) = true
are_hindered (Some Store) = true
are_hindered refusal = false
