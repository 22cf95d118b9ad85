-- Works that are withheld together: they are staged one after another, and are one commit.
use Rattle.std.specs.Prelude.{◌≡◌, false, ℕ, List, [], Option, Result, Ok, Err}
use Rattle.sqlite_trees.specs.declared.error.StoreError.{StoreError}
use Rattle.book_model.specs.declared.answer.Ruled.{Ruled}
use Rattle.book_model.specs.declared.fault.LedgerFault.{LedgerFault}
use Rattle.book_model.specs.Words.{Book, Event, Naming, Note, withhold_outcome}
use Rattle.book_core.specs.declared.withheld.Withheld.{Withheld}
use Rattle.book_core.specs.Withholdings.{TakesSome, is_not_held}
use Rattle.book_core.specs.Words.{Calls, TakesWorks, Withholds, first_of, ruled_in}
use Rattle.tree_tables.specs.States.{State}
use Rattle.table_ledger.specs.Stages.{AttemptsBy, StagesBy}
use Rattle.table_ledger.specs.declared.summary.Summary.{Summary}

-- all that is remembered stays, but how many choices were made
pub record KeepsButChoices (was is : Summary) : Type 0 where
  pub rulings : ruled_in is.rulings ≡ ruled_in was.rulings
  pub replaced : is.replaced ≡ was.replaced
  pub credits : is.credits ≡ was.credits
  pub held : is.held ≡ was.held
  pub total : is.total ≡ was.total

-- the first of these names was refused with this fault, if any was, and its record is held
pub record RefusesFirst (naming : Naming) (noted : Option Note) (rest : List (List ℕ)) (book : Book) (fault : LedgerFault)
    : Type 0 where
  pub held : is_not_held fault ≡ false
  pub refused : Calls (λ (ruled : Ruled). ruled) (withhold_outcome naming noted (first_of rest)) (Err fault)
      false book [] false

abbrev pub RefusesName : Naming → Option Note → List (List ℕ) → Book → Result (Unit {0}) LedgerFault → Type 0
RefusesName naming noted rest book (Ok done) = Unit {0}
RefusesName naming noted rest book (Err fault) = RefusesFirst naming noted rest book fault

-- so many of the works were answered, each in turn; and if none was, this is why
pub record AnswersWorks (naming : Naming) (noted : Option Note) (names : List (List ℕ)) (counts : Withheld)
    (told : Result (Unit {0}) LedgerFault) (book : Book) (events : List Event) : Type 0 where
  pub takes : TakesSome naming noted names counts false book events false
  pub none : counts.taken ≡ 0 → RefusesName naming noted names book told

-- some first of them, or none, are withheld
pub record LeavesWorks (naming : Naming) (noted : Option Note) (names : List (List ℕ)) (book : Book) (events : List Event)
    : Type 0 where
  pub answers : List (Option Ruled)
  pub made : Withholds naming noted names answers false book events false

-- what they make of a book, by what is answered
abbrev pub WorksOf : Naming → Option Note → List (List ℕ) → Result Withheld LedgerFault → Book → List Event
    → Type 0
WorksOf naming noted names answer book events =
    TakesWorks naming noted names answer false book events false

-- Works are staged, so far, up to the first refusal, and this summary remembers the book then.
abbrev pub StagesWorks : Naming → Option Note → List (List ℕ) → Summary → Summary → State → State → Withheld
    → Result (Result (Unit {0}) LedgerFault) StoreError → Type 0
StagesWorks naming noted names was is old new counts staged =
    StagesBy (λ tables. tables) (λ told. told) (AnswersWorks naming noted names counts)
    (LeavesWorks naming noted names) naming was (λ summary. summary ≡ is) old new staged

-- they are staged as one
abbrev pub StagesAsOne : Naming → Option Note → List (List ℕ) → Summary → Summary → State → State
    → Result (Result Withheld LedgerFault) StoreError → Type 0
StagesAsOne naming noted names was is old new staged =
    StagesBy (λ tables. tables) (λ answer. answer) (WorksOf naming noted names) (LeavesWorks naming noted names)
    naming was (λ summary. summary ≡ is) old new staged

-- and they are tried
abbrev pub AttemptsWorks : Naming → Option Note → List (List ℕ) → Summary → Summary → State → State
    → Result (Result Withheld LedgerFault) StoreError → Type 0
AttemptsWorks naming noted names was is old new tried =
    AttemptsBy (WorksOf naming noted names) (LeavesWorks naming noted names) naming was is old new tried
