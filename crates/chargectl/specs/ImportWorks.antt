-- Works withheld by the import that their records came by: what the books are asked, and how the command
-- ends.
use Rattle.std.specs.Prelude.{◌≡◌, ◌==◌, if◌then◌else◌, ℕ, List, Option, Some, None, Result, Ok, Err}
use Rattle.std.specs.Prelude.{option_and_then, Bool}
use Rattle.book_model.specs.declared.fault.LedgerFault.{LedgerFault}
use Rattle.book_model.specs.declared.note.Stop.TheVariants.{End}
use Rattle.book_model.specs.Words.{Note}
use Rattle.book_http.specs.Numbers.{decimal_value}
use Rattle.named_books.specs.declared.repository.RepositoryFault.{RepositoryFault}
use Rattle.named_books.specs.declared.repository.RepositoryFault.TheVariants.{Ledger}
use Rattle.named_books.specs.Shelves.{Shelf, IsOpened, IsThere, IsUntouched}
use Rattle.office.specs.ImportWorks.{WithholdsImport}
use Rattle.office.specs.declared.withholding.WorksTold.{WorksTold}
use Rattle.without_books.specs.declared.command_fault.CommandFault.{CommandFault}
use Rattle.without_books.specs.declared.ended.Ended.{Ended}
use Rattle.chargectl.specs.declared.withheld_works.WorksAnswered.{WorksAnswered}
use Rattle.chargectl.specs.Commands.{IsShelfFault}
use Rattle.chargectl.specs.WithheldWorks.{TellsDump}
use Rattle.without_books.specs.declared.command_fault.CommandFault.TheVariants as fault

-- the number of an entry of the journal, by its text: the first has number 1
abbrev pub if_entry : ℕ → Option ℕ
if_entry number = if number == 0 then None else Some number

abbrev pub entry_number : List ℕ → Option ℕ
entry_number text = option_and_then if_entry (decimal_value 19 text)

-- what came of works, or why the books were not opened, or did not say which these are
abbrev pub told_of : Result (Result WorksTold LedgerFault) RepositoryFault
    → Result WorksTold RepositoryFault
told_of (Ok (Ok told)) = Ok told
told_of (Ok (Err fault)) = Err (Ledger fault)
told_of (Err shelf) = Err shelf

-- The books of a name were opened, if there are any, and the works withheld of the records that came by
-- an entry of their journal.
pub record IsEntryWithheld (entry : ℕ) (book : List ℕ) (old new : Shelf) (answered : WorksAnswered)
    : Type 0 where
  pub said : Option Note
  pub told : Result (Result WorksTold LedgerFault) RepositoryFault
  pub done : IsOpened (WithholdsImport said old.naming entry) book old new told
  pub there : IsThere book old new told
  pub says : answered.told ≡ told_of told
  pub stop : answered.stop ≡ End
  pub log : new.has_log book answered.has_log

-- what came of it; or the place refused the books, and nothing was withheld
abbrev pub ComesOfWorks : ℕ → List ℕ → Shelf → Shelf → Result WorksAnswered CommandFault → Type 0
ComesOfWorks entry book old new (Ok answered) = IsEntryWithheld entry book old new answered
ComesOfWorks entry book old new (Err why) =
    IsShelfFault (old.refuses book) why × IsUntouched book old new

-- or the number is none, and the books are not looked at
abbrev pub ComesOfEntry : Option ℕ → List ℕ → Shelf → Shelf → Result WorksAnswered CommandFault
    → Type 0
ComesOfEntry (Some entry) book old new came = ComesOfWorks entry book old new came
ComesOfEntry None book old new came = (came ≡ Err fault.Argument) × IsUntouched book old new

-- The command: what came of the works, and what was told of that.
pub record WithholdsEntry (number : Option ℕ) (book : List ℕ) (old new : Shelf)
    (held holds : Option (List ℕ)) (Failed : Type 0) (ended : Ended) : Type 0 where
  pub answered : Result WorksAnswered CommandFault
  pub comes : ComesOfEntry number book old new answered
  pub tells : TellsDump answered held holds Failed ended
