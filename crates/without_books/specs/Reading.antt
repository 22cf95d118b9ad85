-- What the commands do that ask no books: trials, checks and explanations.
use Rattle.std.specs.Prelude.{◌≡◌, ◌↔◌, ◌⊎◌, Bool, true, false, ℕ, List, ◌++◌, codes, Option, Some, None}
use Rattle.std.specs.Prelude.{Result, Ok, Err, IsSome, IfSome}
use Rattle.std.specs.Io.KnownBytes.{Keeps}
use Rattle.std.specs.declared.io.ErrorKind.{ErrorKind}
use Rattle.tariff_rules.specs.Terms.{AreRates, rates_of, flat_terms}
use Rattle.streams.specs.InputOutput.{Input}
use Rattle.book_model.specs.Words.{Layout, TariffFault, terms_in, on_every_day, Terms}
use Rattle.book_import.specs.ReadLimits.{cut_by, most_reads}
use Rattle.book_import.specs.declared.receipt.Receipt.{Receipt}
use Rattle.book_lists.specs.declared.fault.ReportFault.{ReportFault}
use Rattle.book_lists.specs.Writing.{is_write_fault}
use Rattle.command_line.specs.declared.request.NumberKind.{NumberKind}
use Rattle.program_output.specs.declared.listing.Checked.{Checked}
use Rattle.program_output.specs.declared.explanations.Explanation.{Explanation}
use Rattle.program_output.specs.declared.explanations.FaultKind.{FaultKind}
use Rattle.program_output.specs.Checks.{IsCheck}
use Rattle.program_output.specs.Explanations.{Explains}
use Rattle.program_output.specs.Marks.{is_receipt_torn}
use Rattle.program_output.specs.Readings.{reading}
use Rattle.program_output.specs.Trials.{IsTrial}
use Rattle.without_books.specs.declared.command_fault.CommandFault.{CommandFault}
use Rattle.without_books.specs.declared.ended.Ended.{Ended}
use Rattle.without_books.specs.DumpEnds.{dump_end, notices_torn}
use Rattle.without_books.specs.Faults.{IsFileFault, IsPrinted, IsTextFault, io_fault, without_log}
use Rattle.without_books.specs.FirstBytes.{IsLookedAt}
use Rattle.book_model.specs.declared.fault.LedgerFault.TheVariants as ledger
use Rattle.command_line.specs.declared.request.NumberKind.TheVariants as number
use Rattle.program_output.specs.declared.explanations.FaultKind.TheVariants as kind
use Rattle.program_output.specs.declared.words.WordKind.TheVariants as word
use Rattle.without_books.specs.declared.command_fault.CommandFault.TheVariants as fault

-- how a trial ends of a dump that had to be whole or not, and looked misread or not
abbrev pub trial_end : Bool → Bool → Result Receipt ReportFault → Ended
trial_end whole looked (Ok receipt) = dump_end whole looked (is_receipt_torn receipt) receipt.stop
trial_end whole looked (Err refused) = without_log (Err (fault.Report refused))

-- how a check ends
abbrev pub check_end : Bool → Bool → Result Checked ReportFault → Ended
check_end whole looked (Ok checked) = dump_end whole looked checked.is_torn checked.stop
check_end whole looked (Err refused) = without_log (Err (fault.Report refused))

-- A trial of standard input, with as many reads as an import has, once its first bytes were looked at.
-- That a write failed is told only where the output has failed.
pub record Tries (layout : Layout) (whole : Bool) (terms : Terms) (had held holds : Option (List ℕ))
    (Failed : Type 0) (ended : Ended) : Type 0 where
  pub looked : Bool
  pub look : IsLookedAt layout had looked
  pub input : Input
  pub answer : Result Receipt ReportFault
  pub begun : Keeps had input.old.left
  pub trial : IsTrial terms (reading layout (cut_by input.new) most_reads input) held holds answer
  pub ends : ended ≡ trial_end whole looked answer
  pub failed : is_write_fault answer ≡ true → Failed

-- none is made where a rate is outside its limits
abbrev pub TriesBy : Layout → Bool → Option Terms → Option (List ℕ) → Option (List ℕ)
    → Option (List ℕ) → Type 0 → Ended → Type 0
TriesBy layout whole (Some terms) had held holds Failed ended =
    Tries layout whole terms had held holds Failed ended
TriesBy layout whole None had held holds Failed ended =
    (holds ≡ held) × (ended ≡ without_log (Err fault.Usage))

-- one tariff with these rates for all records, if they are within their limits
abbrev pub IsFlatTariff : ℕ → ℕ → ℕ → Option Terms → Type 0
IsFlatTariff cpu excp fee tariff = (IsSome tariff ↔ AreRates (rates_of cpu excp fee))
    × IfSome tariff (λ terms. terms ≡ flat_terms (rates_of cpu excp fee))

-- a trial at these rates
pub record TriesAt (layout : Layout) (whole : Bool) (cpu excp fee : ℕ)
    (had held holds : Option (List ℕ)) (Failed : Type 0) (ended : Ended) : Type 0 where
  pub tariff : Option Terms
  pub flat : IsFlatTariff cpu excp fee tariff
  pub tries : TriesBy layout whole tariff had held holds Failed ended

-- the tariff of a text, in force on every day, if it is one
abbrev pub lasting : Result Terms TariffFault → Result Terms CommandFault
lasting (Ok terms) = Ok (on_every_day terms)
lasting (Err refused) = Err (fault.Ledger (ledger.TariffRefused refused))

-- the text that a file gave which had these bytes, where that is known: all of them
abbrev pub IsTextIn : Option (List ℕ) → List ℕ → Type 0
IsTextIn had text = IfSome had (λ all. text ≡ all)

-- the tariff is that of the text of its file; or the file failed or has no such text, or the text is no
-- tariff, for this reason
abbrev pub IsTariffRead : Option (List ℕ) → Result Terms CommandFault → Type 0
IsTariffRead had (Ok terms) =
    (text : List ℕ) × IsTextIn had text × (lasting (terms_in text) ≡ Ok terms)
IsTariffRead had (Err why) = IsTextFault had why
    ⊎ ((text : List ℕ) × IsTextIn had text × (lasting (terms_in text) ≡ Err why))

-- none is made where there is no tariff
abbrev pub TriesWith : Layout → Bool → Result Terms CommandFault → Option (List ℕ) → Option (List ℕ)
    → Option (List ℕ) → Type 0 → Ended → Type 0
TriesWith layout whole (Ok terms) had held holds Failed ended =
    Tries layout whole terms had held holds Failed ended
TriesWith layout whole (Err why) had held holds Failed ended =
    (holds ≡ held) × (ended ≡ without_log (Err why))

-- a trial under the tariff of a file that had these bytes
pub record TriesUnder (file : Option (List ℕ)) (layout : Layout) (whole : Bool)
    (had held holds : Option (List ℕ)) (Failed : Type 0) (ended : Ended) : Type 0 where
  pub tariff : Result Terms CommandFault
  pub read : IsTariffRead file tariff
  pub tries : TriesWith layout whole tariff had held holds Failed ended

-- A check of what a reader had, with as many reads as an import has, once its first bytes were looked at.
-- That a write failed is told only where the output has failed.
pub record Lists (layout : Layout) (whole names : Bool) (had held holds : Option (List ℕ))
    (Failed : Type 0) (ended : Ended) : Type 0 where
  pub looked : Bool
  pub look : IsLookedAt layout had looked
  pub input : Input
  pub answer : Result Checked ReportFault
  pub begun : Keeps had input.old.left
  pub list : IsCheck names (reading layout (cut_by input.new) most_reads input) held holds answer
  pub ends : ended ≡ check_end whole looked answer
  pub failed : is_write_fault answer ≡ true → Failed

-- the file was not opened, and nothing was written
pub record IsUnopened (held holds : Option (List ℕ)) (ended : Ended) : Type 0 where
  pub why : ErrorKind
  pub none : holds ≡ held
  pub ends : ended ≡ without_log (Err (io_fault why))

-- a check of a file that had these bytes, where that is known
abbrev pub Checks : Option (List ℕ) → Layout → Bool → Bool → Option (List ℕ) → Option (List ℕ)
    → Type 0 → Ended → Type 0
Checks had layout whole names held holds Failed ended =
    Lists layout whole names had held holds Failed ended ⊎ IsUnopened held holds ended

-- a check of what a file holds notices that it is not whole, as it had to be, whatever becomes of its list
pub record FindsTorn (layout : Layout) (had : Option (List ℕ)) : Type 0 where
  pub held : Option (List ℕ)
  pub holds : Option (List ℕ)
  pub ended : Ended
  pub lists : Lists layout true false had held holds (Unit {0}) ended
  pub torn : notices_torn ended ≡ true

-- why a dump in a file that had these bytes is not imported: the file failed, or the dump had to be whole,
-- and is torn
abbrev pub IsUnfit : Option (List ℕ) → Layout → Bool → CommandFault → Type 0
IsUnfit had layout whole why =
    IsFileFault why ⊎ ((whole ≡ true) × (why ≡ fault.Torn) × FindsTorn layout had)

-- what a number stands for, by its word, or a word that has none
abbrev pub kind_of : NumberKind → FaultKind
kind_of number.Frame = kind.Frame
kind_of number.Ledger = kind.Ledger
kind_of number.Tariff = kind.Tariff
kind_of number.Damaged = kind.Damage
kind_of number.Io = kind.Word word.Io
kind_of number.Busy = kind.Word word.Busy
kind_of number.Exists = kind.Word word.Exists
kind_of number.Word = kind.Word word.Word
kind_of number.Unsound = kind.Word word.Unsound
kind_of number.Log = kind.Word word.Log
kind_of number.Layout = kind.Word word.Layout
kind_of number.Far = kind.Word word.Far
kind_of number.Torn = kind.Word word.Torn

-- what a number means and what to do, a line each
abbrev pub explanation_text : List ℕ → List ℕ → List ℕ
explanation_text meaning advice = meaning ++ codes "\n" ++ advice ++ codes "\n"

-- what is told of a number: that is written, or a prefix of it where the output fails; or that nothing
-- has it
abbrev pub TellsNumber : Option Explanation → Option (List ℕ) → Option (List ℕ) → Type 0
    → Result (Unit {0}) CommandFault → Type 0
TellsNumber None held holds Failed ended = (holds ≡ held) × (ended ≡ Err fault.Number)
TellsNumber (Some told) held holds Failed ended =
    IsPrinted (explanation_text told.meaning.now told.advice.now) held holds Failed ended

-- what is told of a number of this kind, or of a word, by what it means
pub record TellsOf (kind : FaultKind) (number : ℕ) (held holds : Option (List ℕ)) (Failed : Type 0)
    (ended : Result (Unit {0}) CommandFault) : Type 0 where
  pub told : Option Explanation
  pub explains : Explains kind number told
  pub tells : TellsNumber told held holds Failed ended
