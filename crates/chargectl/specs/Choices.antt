-- Choices by the names of a list in a file: what the list has to be, what the books are asked, what is
-- written, and how the command ends.
use Rattle.std.specs.Prelude.{◌≡◌, ◌⊎◌, nat_lt, if◌then◌else◌, Bool, true, false, ℕ, List, length}
use Rattle.std.specs.Prelude.{slice_index, take, Option, Some, None, IfSome, Result, Ok, Err}
use Rattle.std.specs.Prelude.{option_map}
use Rattle.std.specs.declared.alloc.AllocError.{AllocError}
use Rattle.book_model.specs.declared.fault.LedgerFault.{LedgerFault}
use Rattle.book_model.specs.Words.{Naming, Note}
use Rattle.book_core.specs.Words.{MakesAnswered, NoEvent, Transition}
use Rattle.book_core.proofs.FollowLemmas.{none_answered}
use Rattle.office.specs.declared.choosing.Chosen.{Chosen}
use Rattle.named_books.specs.declared.repository.RepositoryFault.{RepositoryFault}
use Rattle.office.specs.Choices.{ChoosesEach, answer_lines}
use Rattle.named_books.specs.Shelves.{Shelf, IsOpened, IsThere, IsTried, IsUntouched}
use Rattle.office.proofs.ChoiceLemmas.{choices_answered}
use Rattle.program_output.specs.declared.names.NamesFault.{NamesFault}
use Rattle.program_output.specs.Names.{names_in, numbers_in}
use Rattle.without_books.specs.declared.command_fault.CommandFault.{CommandFault}
use Rattle.without_books.specs.declared.ended.Ended.{Ended}
use Rattle.without_books.specs.Faults.{names_fault, shelf_fault, without_log}
use Rattle.chargectl.specs.declared.choices.ListAnswered.{ListAnswered}
use Rattle.chargectl.specs.Commands.{IsFileFault, IsPrinted, IsShelfFault, first_fault}
use Rattle.book_model.specs.declared.fault.LedgerFault.TheVariants as ledger
use Rattle.without_books.specs.declared.command_fault.CommandFault.TheVariants as fault

-- these are the names of the text that a file gave, and the numbers of their lines
abbrev pub AreListed : List (List ℕ) → List ℕ → Type 0
AreListed names lines = (text : List ℕ) × (names_in text ≡ Ok names) × (numbers_in text ≡ lines)

-- where it is known what a reader had to give, they are the names of all of that
abbrev pub AreAllOf : Option (List ℕ) → List (List ℕ) → Type 0
AreAllOf had names = IfSome had (λ bytes. names_in bytes ≡ Ok names)

-- so with the numbers of their lines
abbrev pub AreLinesOf : Option (List ℕ) → List ℕ → Type 0
AreLinesOf had lines = IfSome had (λ bytes. numbers_in bytes ≡ lines)

-- So many bytes of a list are read: one more than the longest has, with 128 bytes for each line and the
-- two of its end. Of a list that has more, these have a line that is too long, or one too many.
abbrev pub most_read : ℕ
most_read = 130_000_001

-- what is read of a list that has these bytes, where that is known
abbrev pub front_of : Option (List ℕ) → Option (List ℕ)
front_of had = option_map (take most_read) had

-- The text that a reader gave is no list of names; where it is known what it had to give, all of that
-- is none, for the same reason.
pub record IsNoList (had : Option (List ℕ)) (why : CommandFault) : Type 0 where
  pub text : List ℕ
  pub found : NamesFault
  pub read : names_in text ≡ Err found
  pub all : IfSome had (λ bytes. names_in bytes ≡ Err found)
  pub is : why ≡ names_fault found

-- the file failed, or its text is no list of names
abbrev pub IsListFault : Option (List ℕ) → CommandFault → Type 0
IsListFault had why = IsFileFault why ⊎ IsNoList had why

-- what a visit to the books did that chose the records of these names; without memory for the answers
-- it chose none
abbrev pub ChoosesBy : Option Note → Bool → Naming → List (List ℕ) → Result Chosen AllocError
    → Transition
ChoosesBy said withheld naming names (Ok chosen) =
    ChoosesEach said withheld naming names chosen.answers.items chosen.refusal
ChoosesBy said withheld naming names (Err none) = NoEvent

-- it makes events that the books answered
pub list_answered : (said : Option Note) (withheld : Bool) (naming : Naming)
    (names : List (List ℕ)) (told : Result Chosen AllocError)
    → MakesAnswered naming (ChoosesBy said withheld naming names told)
list_answered said withheld naming names (Ok chosen) =
    choices_answered said withheld naming names chosen.answers.items chosen.refusal
list_answered said withheld naming names (Err none) = none_answered naming

-- what came of choices, or why none were made
abbrev pub chosen_of : Result (Result Chosen AllocError) RepositoryFault
    → Result Chosen CommandFault
chosen_of (Ok (Ok chosen)) = Ok chosen
chosen_of (Ok (Err none)) = Err (fault.Ledger ledger.Memory)
chosen_of (Err shelf) = Err (shelf_fault shelf)

-- The books of a name were opened, if there are any, and the records of these names chosen, one after the
-- other.
pub record IsListAnswered (withheld : Bool) (names : List (List ℕ)) (book : List ℕ)
    (old new : Shelf)
    (answered : ListAnswered) : Type 0 where
  pub said : Option Note
  pub told : Result (Result Chosen AllocError) RepositoryFault
  pub done : IsOpened (ChoosesBy said withheld old.naming names) book old new told
  pub there : IsThere book old new told
  pub says : answered.chosen ≡ chosen_of told
  pub log : new.has_log book answered.has_log
  pub change : answered.is_change ≡ true

-- Or they were visited as a copy, and the records chosen there: the books are as they were.
pub record IsListTried (withheld : Bool) (names : List (List ℕ)) (book : List ℕ) (old new : Shelf)
    (answered : ListAnswered) : Type 0 where
  pub told : Result (Result Chosen AllocError) RepositoryFault
  pub tried : IsTried (ChoosesBy None withheld old.naming names) book old new told
  pub there : IsThere book old new told
  pub says : answered.chosen ≡ chosen_of told
  pub log : new.has_log book answered.has_log
  pub change : answered.is_change ≡ false

-- the one or the other, as it is asked for
abbrev pub IsListBy : Bool → Bool → List (List ℕ) → List ℕ → Shelf → Shelf → ListAnswered → Type 0
IsListBy true withheld names book old new answered = IsListTried withheld names book old new
    answered
IsListBy false withheld names book old new answered = IsListAnswered withheld names book old new
    answered

-- so with the names of a list in a file that had these bytes
pub record AnswersList (tried withheld : Bool) (had : Option (List ℕ)) (book : List ℕ)
    (old new : Shelf)
    (answered : ListAnswered) : Type 0 where
  pub names : List (List ℕ)
  pub lines : List ℕ
  pub listed : AreListed names lines
  pub all : AreAllOf (front_of had) names
  pub placed : AreLinesOf (front_of had) lines
  pub numbered : answered.lines.items ≡ lines
  pub came : IsListBy tried withheld names book old new answered

-- why nothing is chosen by a file that had these bytes, of books that are refused for these reasons
abbrev pub ChoosesNothing : Option (List ℕ) → (RepositoryFault → Type 0) → CommandFault → Type 0
ChoosesNothing had Refuses why = IsShelfFault Refuses why ⊎ IsListFault (front_of had) why

-- what came of a list
abbrev pub ComesOfList : Bool → Bool → Option (List ℕ) → List ℕ → Shelf → Shelf
    → Result ListAnswered CommandFault → Type 0
ComesOfList tried withheld had book old new (Ok answered) =
    AnswersList tried withheld had book old new answered
ComesOfList tried withheld had book old new (Err why) =
    ChoosesNothing had (old.refuses book) why × IsUntouched book old new

-- the number of the line of a name, by its place among the names, each of which has one
abbrev pub line_of : List ℕ → ℕ → ℕ
line_of lines place = if nat_lt place (length lines) then slice_index lines place else 0

-- the refusal of the choice on the line of this number, if it was refused
abbrev pub refusal_end : Option LedgerFault → ℕ → Result (Unit {0}) CommandFault
refusal_end None line = Ok tt
refusal_end (Some refused) line = Err (fault.LedgerAt refused line)

-- How choices end, of names that stand in these lines: at the line of the name after those that have
-- answers, where that was refused; else by whether the answers were written.
abbrev pub choices_end : Chosen → List ℕ → Result (Unit {0}) CommandFault
    → Result (Unit {0}) CommandFault
choices_end chosen lines written =
    first_fault (refusal_end chosen.refusal (line_of lines (length chosen.answers.items))) written

-- a line is written for each answer
pub record EndsChoices (chosen : Chosen) (lines : List ℕ) (held holds : Option (List ℕ))
    (Failed : Type 0) (came : Result (Unit {0}) CommandFault) : Type 0 where
  pub written : Result (Unit {0}) CommandFault
  pub told : IsPrinted (answer_lines chosen.answers.items) held holds Failed written
  pub ends : came ≡ choices_end chosen lines written

-- or nothing, where there are none
abbrev pub TellsChoices : Result Chosen CommandFault → List ℕ → Option (List ℕ) → Option (List ℕ)
    → Type 0 → Result (Unit {0}) CommandFault → Type 0
TellsChoices (Ok chosen) lines held holds Failed came =
    EndsChoices chosen lines held holds Failed came
TellsChoices (Err why) lines held holds Failed came = (holds ≡ held) × (came ≡ Err why)

-- with what the books left, which may have changed
pub record TellsListAnswered (answered : ListAnswered) (held holds : Option (List ℕ))
    (Failed : Type 0)
    (ended : Ended) : Type 0 where
  pub told : TellsChoices answered.chosen answered.lines.items held holds Failed ended.came
  pub log : ended.has_log ≡ answered.has_log
  pub change : ended.is_change ≡ answered.is_change
  pub notice : ended.notice ≡ None

-- and where nothing was chosen
abbrev pub TellsList : Result ListAnswered CommandFault → Option (List ℕ) → Option (List ℕ) → Type 0
    → Ended → Type 0
TellsList (Ok answered) held holds Failed ended = TellsListAnswered answered held holds Failed ended
TellsList (Err why) held holds Failed ended = (holds ≡ held) × (ended ≡ without_log (Err why))

-- The command, or a dry run of it: what came of the list, and what was told of that.
pub record ChoosesListed (tried withheld : Bool) (had : Option (List ℕ)) (book : List ℕ)
    (old new : Shelf)
    (held holds : Option (List ℕ)) (Failed : Type 0) (ended : Ended) : Type 0 where
  pub answered : Result ListAnswered CommandFault
  pub comes : ComesOfList tried withheld had book old new answered
  pub tells : TellsList answered held holds Failed ended
