-- Works withheld by the records of a dump in a file: which records these are, what the books are
-- asked, what is written, and how the command ends.
use Rattle.std.specs.Prelude.{◌≡◌, ◌⊎◌, true, ℕ, List, Option, Some, None, Result, Ok, Err}
use Rattle.sha2.specs.Sha256.{sha256}
use Rattle.smf_frames.specs.declared.dump.Layout.{Layout}
use Rattle.streams.specs.InputOutput.{Input}
use Rattle.book_model.specs.declared.fault.LedgerFault.{LedgerFault}
use Rattle.book_model.specs.Words.{Naming, Note}
use Rattle.book_core.specs.Words.{Transition}
use Rattle.book_import.specs.DumpNames.{AreNamed}
use Rattle.book_import.specs.ReadLimits.{most_reads}
use Rattle.book_import.specs.declared.names_in_dumps.DumpNames.{DumpNames}
use Rattle.book_model.specs.declared.note.Stop.{Stop}
use Rattle.book_model.specs.declared.note.Stop.TheVariants.{Ledger}
use Rattle.book_reports.specs.ReceiptLines.{withheld_line_text}
use Rattle.named_books.specs.declared.repository.RepositoryFault.{RepositoryFault}
use Rattle.named_books.specs.Shelves.{Shelf, IsOpened, IsThere, IsUntouched}
use Rattle.office.specs.Withholdings.{WithholdsSo}
use Rattle.office.specs.declared.withholding.WorkCounts.{WorkCounts}
use Rattle.office.specs.declared.withholding.WorksTold.{WorksTold}
use Rattle.without_books.specs.declared.command_fault.CommandFault.{CommandFault}
use Rattle.without_books.specs.declared.ended.Ended.{Ended}
use Rattle.without_books.specs.Faults.{end_of, shelf_fault, without_log}
use Rattle.chargectl.specs.declared.withheld_works.WorksAnswered.{WorksAnswered}
use Rattle.chargectl.specs.Commands.{IsFileFault, IsPrinted, IsShelfFault, first_fault}

-- A reader that had these bytes gave a dump, and the names of its usage records, by their SHA-256,
-- are these.
pub record IsNamedOf (layout : Layout) (had : Option (List ℕ)) (named : DumpNames) : Type 0 where
  pub cut : Option Stop
  pub input : Input
  pub begun : input.old.left ≡ had
  pub names : AreNamed sha256 layout cut most_reads input named

-- what a visit to the books did that withheld the works of the records of these names
abbrev pub WorksBy : Option Note → Naming → List (List ℕ) → WorksTold → Transition
WorksBy said naming names told = WithholdsSo said naming names told.counts told.refusal

-- The books of a name were opened, if there are any, and the works of these records withheld.
pub record IsWithheld (named : DumpNames) (book : List ℕ) (old new : Shelf)
    (answered : WorksAnswered)
    : Type 0 where
  pub said : Option Note
  pub done : IsOpened (WorksBy said old.naming named.names.items) book old new answered.told
  pub there : IsThere book old new answered.told
  pub stop : answered.stop ≡ named.stop
  pub log : new.has_log book answered.has_log

-- so with the records of a dump in a file that had these bytes
pub record AnswersDump (layout : Layout) (had : Option (List ℕ)) (book : List ℕ) (old new : Shelf)
    (answered : WorksAnswered) : Type 0 where
  pub named : DumpNames
  pub read : IsNamedOf layout had named
  pub came : IsWithheld named book old new answered

-- why nothing is withheld, of books that are refused for these reasons: there was no memory for the
-- names, or the file is not opened
abbrev pub WithholdsNothing : (RepositoryFault → Type 0) → CommandFault → Type 0
WithholdsNothing Refuses why = IsShelfFault Refuses why ⊎ IsFileFault why

-- what came of a dump
abbrev pub ComesOfDump : Layout → Option (List ℕ) → List ℕ → Shelf → Shelf
    → Result WorksAnswered CommandFault → Type 0
ComesOfDump layout had book old new (Ok answered) = AnswersDump layout had book old new answered
ComesOfDump layout had book old new (Err why) =
    WithholdsNothing (old.refuses book) why × IsUntouched book old new

-- why no further work was withheld: the books refused one, or the dump had no more records
abbrev pub stop_of : Option LedgerFault → Stop → Stop
stop_of (Some fault) stop = Ledger fault
stop_of None stop = stop

-- the line of the counts is written; works that stopped say so also where it could not be
pub record PrintsWorks (counts : WorkCounts) (stop : Stop) (held holds : Option (List ℕ))
    (Failed : Type 0) (came : Result (Unit {0}) CommandFault) : Type 0 where
  pub written : Result (Unit {0}) CommandFault
  pub printed : IsPrinted
      (withheld_line_text counts.withheld counts.already counts.not_held stop) held holds Failed
      written
  pub ends : came ≡ first_fault (end_of stop) written

-- or nothing, of books that were not opened
abbrev pub TellsTold : Result WorksTold RepositoryFault → Stop → Option (List ℕ) → Option (List ℕ)
    → Type 0 → Result (Unit {0}) CommandFault → Type 0
TellsTold (Ok told) stop held holds Failed came =
    PrintsWorks told.counts (stop_of told.refusal stop) held holds Failed came
TellsTold (Err shelf) stop held holds Failed came =
    (holds ≡ held) × (came ≡ Err (shelf_fault shelf))

-- with what the books left, which may have changed
pub record TellsWorks (answered : WorksAnswered) (held holds : Option (List ℕ)) (Failed : Type 0)
    (ended : Ended) : Type 0 where
  pub told : TellsTold answered.told answered.stop held holds Failed ended.came
  pub log : ended.has_log ≡ answered.has_log
  pub change : ended.is_change ≡ true
  pub notice : ended.notice ≡ None

-- and where nothing was withheld
abbrev pub TellsDump : Result WorksAnswered CommandFault → Option (List ℕ) → Option (List ℕ)
    → Type 0
    → Ended → Type 0
TellsDump (Ok answered) held holds Failed ended = TellsWorks answered held holds Failed ended
TellsDump (Err why) held holds Failed ended = (holds ≡ held) × (ended ≡ without_log (Err why))

-- The command: what came of the dump, and what was told of that.
pub record WithholdsDump (layout : Layout) (had : Option (List ℕ)) (book : List ℕ) (old new : Shelf)
    (held holds : Option (List ℕ)) (Failed : Type 0) (ended : Ended) : Type 0 where
  pub answered : Result WorksAnswered CommandFault
  pub comes : ComesOfDump layout had book old new answered
  pub tells : TellsDump answered held holds Failed ended
