-- Rulings that are made only where their day is near: else nothing is asked for, and they are refused.
use Rattle.std.specs.Prelude.{◌≡◌, Bool, true, false, ℕ, ℤ, List, [], Option, Some, None, Result, Ok}
use Rattle.std.specs.Prelude.{Err}
use Rattle.book_model.specs.declared.fault.LedgerFault.{LedgerFault}
use Rattle.book_model.specs.Words.{Book, Event, Naming}
use Rattle.book_core.specs.Words.{MakesAnswered, NoEvent, Transition}
use Rattle.book_core.proofs.FollowLemmas.{none_answered}
use Rattle.named_books.specs.declared.repository.RepositoryFault.{RepositoryFault}
use Rattle.named_books.specs.Shelves.{Shelf, IsOpened, IsThere, IsUntouched}
use Rattle.office.specs.declared.request.Answer.{Answer}
use Rattle.office.specs.declared.request.Asked.{Asked}
use Rattle.office.specs.Outcomes.{is_hindered}
use Rattle.office.specs.Requests.{Response, response_by}
use Rattle.command_line.specs.declared.request.BookRequest.{BookRequest}
use Rattle.command_line.specs.declared.request.BookRequest.TheVariants as to_books
use Rattle.command_line.specs.declared.request.Ruling.{Ruling}
use Rattle.without_books.specs.declared.command_fault.CommandFault.{CommandFault}
use Rattle.without_books.specs.declared.command_fault.CommandFault.TheVariants as fault
use Rattle.without_books.specs.declared.ended.Ended.{Ended}
use Rattle.without_books.specs.Faults.{shelf_fault}
use Rattle.without_books.specs.Inputs.{Files}
use Rattle.chargectl.specs.declared.answered.Answered.{Answered}
use Rattle.chargectl.specs.declared.near_rulings.NearAnswer.{NearAnswer}
use Rattle.chargectl.specs.declared.near_rulings.NearAnswer.TheVariants as nears
use Rattle.chargectl.specs.Commands.{AsksNothing, AsksOnce, AsksOnceBy, IsAskedBy, Tells, answer_of}
use Rattle.chargectl.specs.Commands.{once_answered}
use Rattle.chargectl.specs.Far.{is_far_asked}

-- what a visit did that had looked at the day: it asked for the ruling, or the day is far
abbrev pub AsksIfNear : Naming → Asked → Bool → NearAnswer → Transition
AsksIfNear naming asked far (nears.Told told) =
    λ was before events is. (far ≡ false) × AsksOnceBy naming asked (Some []) told was before events is
AsksIfNear naming asked far nears.Far =
    λ was before events is. (far ≡ true) × NoEvent was before events is

-- The office was asked for a ruling once, and answered this. Its day is not far from the book before it,
-- unless a lack of memory or the store hindered the answer.
pub record AsksNearly (naming : Naming) (today : Option ℤ) (asked : Asked)
    (told : Result Response LedgerFault) (was : Bool) (before : Book) (events : List Event) (is : Bool)
    : Type 0 where
  pub once : AsksOnce naming asked (Some []) told was before events is
  pub near : was ≡ false → is_hindered told ≡ false → is_far_asked today asked before ≡ false

-- the day of a ruling is far from the book, and nothing was asked for
pub record IsFarFrom (today : Option ℤ) (asked : Asked) (was : Bool) (before : Book)
    (events : List Event) (is : Bool) : Type 0 where
  pub none : NoEvent was before events is
  pub far : is_far_asked today asked before ≡ true

-- what a visit to the books did that asked for it only where its day is near, by what came of it
abbrev pub AsksNear : Naming → Option ℤ → Asked → NearAnswer → Transition
AsksNear naming today asked (nears.Told told) = AsksNearly naming today asked (response_by told)
AsksNear naming today asked nears.Far = IsFarFrom today asked

-- it makes events that the books answered
pub near_answered : (naming : Naming) (today : Option ℤ) (asked : Asked) (near : NearAnswer)
    → MakesAnswered naming (AsksNear naming today asked near)
near_answered naming today asked (nears.Told told) book was events is made =
    once_answered naming asked (Some []) (response_by told) book was events is made.once
near_answered naming today asked nears.Far book was events is made =
    none_answered naming book was events is made.none

-- what came of it: its answer; or that its day is far; or why the books were not opened
abbrev pub near_answer_of : Result NearAnswer RepositoryFault → Result Answer CommandFault
near_answer_of (Ok (nears.Told told)) = answer_of (Ok told)
near_answer_of (Ok nears.Far) = Err fault.Far
near_answer_of (Err shelf) = Err (shelf_fault shelf)

-- The books of a name were opened, if there are any, and asked for a ruling whose day has to be near, as it
-- is seen today.
pub record IsAskedNear (today : Option ℤ) (asked : Asked) (book : List ℕ) (old new : Shelf)
    (answered : Answered) : Type 0 where
  pub told : Result NearAnswer RepositoryFault
  pub done : IsOpened (AsksNear old.naming today asked) book old new told
  pub there : IsThere book old new told
  pub says : answered.answer ≡ near_answer_of told
  pub notice : answered.notice ≡ None
  pub log : new.has_log book answered.has_log
  pub change : answered.is_change ≡ true

-- a command asked for what its words ask
pub record AskingNear (files : Files) (request : BookRequest) (book : List ℕ) (old new : Shelf)
    (answered : Answered) : Type 0 where
  pub asked : Asked
  pub words : IsAskedBy files request asked
  pub came : IsAskedNear files.today asked book old new answered

-- what came of it; or there was a fault before, which the ruling alone would have found
abbrev pub ComesNear : Files → BookRequest → List ℕ → Shelf → Shelf → Result Answered CommandFault
    → Type 0
ComesNear files request book old new (Ok answered) = AskingNear files request book old new answered
ComesNear files request book old new (Err why) =
    AsksNothing files request (old.refuses book) why × IsUntouched book old new

-- A ruling whose day has to be near: what came of it, and what was told of that.
pub record RulesNear (files : Files) (ruling : Ruling) (book : List ℕ) (old new : Shelf)
    (held holds : Option (List ℕ)) (Failed : Type 0) (ended : Ended) : Type 0 where
  pub answered : Result Answered CommandFault
  pub comes : ComesNear files (to_books.Rule ruling) book old new answered
  pub tells : Tells answered held holds Failed ended
