-- Lists that are written while the books are open: the details of a period, the rulings, the disputes
-- and the journal. They are never held whole.
use Rattle.std.specs.Prelude.{◌≡◌, Bool, false, ℕ, List, Option, Some, None, Result, Ok, Err}
use Rattle.std.specs.Prelude.{IfErr, OnErr, OnOk, option_and_then}
use Rattle.std.proofs.Common.{sym, subst}
use Rattle.book_model.specs.declared.fault.LedgerFault.{LedgerFault}
use Rattle.book_model.specs.Words.{AreMadeOf, Book, Naming}
use Rattle.book_core.specs.Words.{MakesAnswered}
use Rattle.book_lists.specs.declared.fault.ReportFault.{ReportFault}
use Rattle.book_lists.specs.declared.fault.ReportFault.TheVariants.{Write}
use Rattle.book_lists.specs.Streamed.{WritesAnswerUntil}
use Rattle.book_lists.specs.Writing.{is_write_fault}
use Rattle.book_reports.specs.declared.what_if.StatementForm.{StatementForm}
use Rattle.book_reports.specs.BookTexts.{ruling_text}
use Rattle.book_reports.specs.StreamedRulings.{answered_by, WritesSomeRulings}
use Rattle.book_reports.specs.StreamedDetails.{WritesSomeDetails, detail_answer}
use Rattle.book_reports.specs.StreamedDisputes.{WritesSomeDisputes, dispute_report}
use Rattle.book_reports.specs.StreamedJournal.{WritesSomeJournal, journal_report}
use Rattle.command_line.specs.declared.request.ReportAsked.{ReportAsked}
use Rattle.named_books.specs.declared.repository.RepositoryFault.{RepositoryFault}
use Rattle.named_books.specs.Shelves.{Shelf, ComesBy, IsOpened, IsThere, IsUntouched}
use Rattle.without_books.specs.declared.command_fault.CommandFault.{CommandFault}
use Rattle.without_books.specs.declared.ended.Ended.{Ended}
use Rattle.without_books.specs.Faults.{shelf_fault}
use Rattle.chargectl.specs.declared.streamed_lists.StreamedList.{StreamedList}
use Rattle.chargectl.specs.Commands.{IsFileFault, IsRefusedBy, about_of, first_fault}
use Rattle.report_rows.specs.declared.about.About.{About}
use Rattle.report_rows.specs.declared.report_row.ReportName.{ReportName}
use Rattle.report_rows.specs.declared.about.About.TheVariants as about
use Rattle.report_rows.specs.declared.report_row.ReportName.TheVariants as report
use Rattle.without_books.specs.declared.command_fault.CommandFault.TheVariants as fault
use Rattle.chargectl.specs.declared.streamed_lists.StreamedList.TheVariants as list

-- the text of a list, or why the books have none: only of a period that is not there
abbrev pub list_answer : StreamedList → Naming → Book → Result (List ℕ) LedgerFault
list_answer (list.Details report) = detail_answer report
list_answer list.Rulings = answered_by ruling_text
list_answer (list.Disputes form) = answered_by (dispute_report form)
list_answer (list.Journal form) = answered_by (journal_report form)

-- whatever the books are, it is one of some details, of some rulings, disputes or entries
abbrev pub WritesSomeOf : StreamedList → Option (List ℕ) → Option (List ℕ)
    → Result (Unit {0}) ReportFault → Type 0
WritesSomeOf (list.Details report) = WritesSomeDetails report
WritesSomeOf list.Rulings = WritesSomeRulings
WritesSomeOf (list.Disputes form) = WritesSomeDisputes form
WritesSomeOf (list.Journal form) = WritesSomeJournal form

-- so much was written while the books were open, and the sink is marked where a write of it failed
pub record ListsOpen (list : StreamedList) (held holds : Option (List ℕ)) (had has : Bool)
    (told : Result (Unit {0}) ReportFault) : Type 0 where
  pub some : WritesSomeOf list held holds told
  pub failed : had ≡ false → has ≡ is_write_fault told

-- the list of a name: of a period, of one centre or of the whole office; or of the books
abbrev pub list_of_centre : ReportName → StatementForm → ℕ → Option (List ℕ) → Option StreamedList
list_of_centre report.Details form period centre =
    Some (list.Details (record { form = form; period = period; centre = centre }))
list_of_centre name form period centre = None

abbrev pub list_of_office : ReportName → StatementForm → Option StreamedList
list_of_office report.Disputes form = Some (list.Disputes form)
list_of_office report.Journal form = Some (list.Journal form)
list_of_office report.Rulings form = Some list.Rulings
list_of_office name form = None

abbrev pub list_about : ReportName → StatementForm → About → Option StreamedList
list_about name form (about.OfCentre period centre) = list_of_centre name form period centre
list_about name form about.OfOffice = list_of_office name form
list_about name form other = None

-- the list that words ask for, if each of them is what it has to be
abbrev pub list_of : ReportAsked → Option StreamedList
list_of asked = option_and_then (list_about asked.name asked.form) (about_of asked.words)

-- a list makes events that the books answered, since it makes none
pub listing_answered : (answer : Naming → Book → Result (List ℕ) LedgerFault) (naming : Naming)
    (held holds : Option (List ℕ)) (told : Result (Unit {0}) ReportFault)
    → MakesAnswered naming (WritesAnswerUntil answer naming held holds told)
listing_answered answer naming held holds told book was events is it =
    subst (AreMadeOf naming book) (sym it.none) tt

-- what came of the list: it was written whole, or not, or the books were not opened
abbrev pub list_end : Result (Result (Unit {0}) ReportFault) RepositoryFault
    → Result (Unit {0}) CommandFault
list_end (Ok (Ok done)) = Ok done
list_end (Ok (Err refused)) = Err (fault.Report refused)
list_end (Err shelf) = Err (shelf_fault shelf)

-- A list of the books was written while they were open, and then the output was flushed, where all
-- went well so far; that can fail only as an output does. That a write failed, or the flush, is told
-- only where the output has failed.
pub record Lists (list : StreamedList) (book : List ℕ) (old new : Shelf)
    (held holds : Option (List ℕ)) (Failed : Type 0) (ended : Ended) : Type 0 where
  pub told : Result (Result (Unit {0}) ReportFault) RepositoryFault
  pub flushed : Result (Unit {0}) CommandFault
  pub done : IsOpened (WritesAnswerUntil (list_answer list) old.naming held holds) book old new told
  pub there : IsThere book old new told
  pub some : ComesBy (WritesSomeOf list held holds) (holds ≡ held) told
  pub lost : told ≡ Ok (Err Write) → Failed
  pub ends : ended.came ≡ first_fault (list_end told) flushed
  pub output : OnOk (list_end told) (IfErr flushed IsFileFault)
  pub failed : OnOk (list_end told) (OnErr flushed Failed)
  pub log : new.has_log book ended.has_log
  pub change : ended.is_change ≡ false
  pub notice : ended.notice ≡ None

-- or the place refused them before
abbrev pub ListsBy : StreamedList → List ℕ → Shelf → Shelf → Option (List ℕ) → Option (List ℕ)
    → Type 0 → Result Ended CommandFault → Type 0
ListsBy list book old new held holds Failed (Ok ended) =
    Lists list book old new held holds Failed ended
ListsBy list book old new held holds Failed (Err why) = IsRefusedBy book old new held holds why

-- A list that words ask for; or a word is not what it has to be, and the books are not looked at.
abbrev pub ListsAsked : Option StreamedList → List ℕ → Shelf → Shelf → Option (List ℕ)
    → Option (List ℕ) → Type 0 → Result Ended CommandFault → Type 0
ListsAsked (Some list) book old new held holds Failed came =
    ListsBy list book old new held holds Failed came
ListsAsked None book old new held holds Failed came =
    (came ≡ Err fault.Argument) × IsUntouched book old new × (holds ≡ held)
