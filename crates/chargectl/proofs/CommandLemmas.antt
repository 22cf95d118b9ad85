-- What commands ask, and what they tell.
use Rattle.std.proofs.Common.{◌≡◌, List, ℕ, Option, Some, None, Result, Ok, Err, ◌⊎◌, sym, subst}
use Rattle.std.proofs.Common.{refl, take, length, inl, inr, IsErr, IsErrAnd, ℤ, Bool, true, false}
use Rattle.std.proofs.Common.{if◌then◌else◌}
use Rattle.std.proofs.KnownBytes.{Appends-kept}
use Rattle.std.proofs.Math.Seq.{take-length}
use Rattle.std.specs.Io.KnownBytes.{Appends}
use Rattle.streams.specs.InputOutput.{Input, Output}
use Rattle.book_model.specs.declared.fault.LedgerFault.TheVariants as ledger
use Rattle.book_model.specs.Words.{day_of_text_of}
use Rattle.smf_text.specs.Names.{IsName, is_name}
use Rattle.book_core.specs.Words.{Books, IsTransition}
use Rattle.book_model.proofs.Std.{none-some, same_Some}
use Rattle.book_reports.specs.BookTexts.{centre_named}
use Rattle.book_reports.specs.Reports.{IsWritten}
use Rattle.office.specs.Requests.{Asks, IsAsked}
use Rattle.named_books.proofs.ShelfLemmas.{untouched}
use Rattle.command_line.specs.declared.request.BookRequest.{BookRequest}
use Rattle.program_output.specs.Names.{name_in}
use Rattle.without_books.specs.Inputs.{Files}
use Rattle.without_books.specs.Reading.{IsUnfit}
use Rattle.chargectl.specs.declared.answered.Answered.{Answered}
use Rattle.chargectl.specs.Commands.{AsksNothing, AsksOnceBy, ComesOf, IsCreditFault, IsShelfFault}
use Rattle.chargectl.specs.Commands.{credit_words}
use Rattle.chargectl.specs.Commands.{IsTariffFault, IsTextFault, IsWordFault, report_of, what_if_of}
use Rattle.chargectl.proofs.Words.{Keeps, LedgerFault, work_as, ReportFault, RepositoryFault}
use Rattle.chargectl.proofs.Words.{Answer, Asked, response_by, Shelf, CommandFault}
use Rattle.command_line.specs.declared.request.BookRequest.TheVariants as to_books
use Rattle.command_line.specs.declared.request.Ruling.TheVariants as ruling
use Rattle.without_books.specs.declared.command_fault.CommandFault.TheVariants as fault

-- a request with its answer
pub asked_once : (asked : Asked) (had : Option (List ℕ)) (answer : Result Answer LedgerFault)
    (books : Books) (input : Input) → input.old.left ≡ had → IsAsked asked answer books input
    → IsTransition books.old books.new (AsksOnceBy books.old.naming asked had answer)
asked_once asked had answer books input begun it =
    work_as books.old books.new (Asks books.old.naming asked it.dump (response_by answer))
    (AsksOnceBy books.old.naming asked had answer)
    (λ was before events is made.
    record { dump = it.dump; input = input; begun = begun; given = it.given; made = made }) it.work

-- nothing was asked, and this is why
pub not_asked : (files : Files) (request : BookRequest) (book : List ℕ) (shelf : Shelf)
    (result : Result Answered CommandFault) (found : CommandFault) → IsErr result
    → IsErrAnd result (λ why. why ≡ found) → AsksNothing files request (shelf.refuses book) found
    → ComesOf files request book shelf shelf result
not_asked files request book shelf (Ok answered) found bad is why = absurd is
not_asked files request book shelf (Err fault) found bad is why =
    (subst (AsksNothing files request (shelf.refuses book)) (sym is) why, untouched book shelf)

-- ---- why the books were refused, where the reasons are among others

module _ (One Other : RepositoryFault → Type 0)
    (follow : (fault : RepositoryFault) → One fault → Other fault) where
  pub shelf_as : (why : CommandFault) → IsShelfFault One why → IsShelfFault Other why
  shelf_as why it = (it.0, follow it.0 it.1, it.2)

  pub either_as : (Rest : Type 0) (why : CommandFault) → IsShelfFault One why ⊎ Rest
      → IsShelfFault Other why ⊎ Rest
  either_as Rest why (inl shelf) = inl (shelf_as why shelf)
  either_as Rest why (inr rest) = inr rest

  word_as : {A : Type 0} (read : Option A) (Is So : CommandFault → Type 0) (why : CommandFault)
      → (Is why → So why) → IsWordFault read Is why → IsWordFault read So why
  word_as None Is So why goes it = it
  word_as (Some found) Is So why goes it = goes it

  said_as : (said : Result (List ℕ × ℤ) CommandFault) (why : CommandFault)
      → IsCreditFault said One why → IsCreditFault said Other why
  said_as (Err found) why it = it
  said_as (Ok said) why it = either_as (why ≡ fault.Ledger ledger.Memory) why it

  pub nothing_as : (files : Files) (request : BookRequest) (why : CommandFault)
      → AsksNothing files request One why → AsksNothing files request Other why
  nothing_as files (to_books.Import dump) why it =
      either_as (IsUnfit (files.holds dump.file.now) dump.layout dump.whole why) why it
  nothing_as files (to_books.Rule (ruling.Tariff file)) why it =
      either_as (IsTextFault (files.holds file.now) why) why it
  nothing_as files (to_books.Rule (ruling.Close period date)) why it =
      word_as (day_of_text_of date.now) (IsShelfFault One) (IsShelfFault Other) why (shelf_as why)
      it
  nothing_as files (to_books.Rule (ruling.Choose name)) why it =
      word_as (name_in name.now) (IsShelfFault One) (IsShelfFault Other) why (shelf_as why) it
  nothing_as files (to_books.Rule (ruling.Replace file)) why it =
      either_as (IsTextFault (files.holds file.now) why) why it
  nothing_as files (to_books.Rule (ruling.Withhold name)) why it =
      word_as (name_in name.now) (IsShelfFault One) (IsShelfFault Other) why (shelf_as why) it
  nothing_as files (to_books.Rule (ruling.Credit period centre amount reason)) why it =
      said_as (credit_words centre.now amount.now reason.now) why it
  nothing_as files (to_books.Report said) why it =
      word_as (report_of said) (IsShelfFault One) (IsShelfFault Other) why (shelf_as why) it
  nothing_as files (to_books.WhatIf form period file) why it =
      let had = files.holds file.now in
      word_as (what_if_of form period) (IsTariffFault had One) (IsTariffFault had Other) why
      (either_as (IsTextFault had why) why) it
  nothing_as files request why it = shelf_as why it

-- a word that is there is no fault
pub word_there : {A : Type 0} (read : Option A) (found : A) (IsLater : CommandFault → Type 0)
    (why : CommandFault) → read ≡ Some found → IsLater why → IsWordFault read IsLater why
word_there read found IsLater why is later =
    subst (λ read. IsWordFault read IsLater why) (sym is) later

-- or it was written, and not seen to have left the program
pub not_flushed : (text : List ℕ) (output : Output) (told : Result (Unit {0}) ReportFault)
    (held has holds : Option (List ℕ)) → IsWritten text output told
    → ((fault : ReportFault) → told ≡ Err fault → ⊥) → output.old.holds ≡ held
    → output.new.holds ≡ has → Keeps has holds
    → (count : ℕ) × Appends held holds (take count text)
not_flushed text output (Ok done) held has holds written well old new kept = (
  length text,
  subst (λ bytes. Appends held holds bytes) (sym (take-length text))
      (Appends-kept held has holds text
      (subst (λ held. Appends held has text) old
      (subst (λ has. Appends output.old.holds has text) new written)) kept),
)
not_flushed text output (Err fault) held has holds written well old new kept =
    absurd (well fault refl)

-- a centre that a text names has a name
pub named_centre : (text centre : List ℕ) → centre_named text ≡ Some centre → IsName centre
named_centre text centre = by (is_name text) refl
  where
    by : (named : Bool) → is_name text ≡ named
        → ◌≡◌ {A = Option (List ℕ)} (if named then Some text else None) (Some centre) → IsName centre
    by true named is = subst IsName (same_Some text centre is) named
    by false named is = absurd (none-some centre is)

-- where the words of a credit are what they have to be, what comes later is why nothing is asked
pub said_so : {found : Result (List ℕ × ℤ) CommandFault} (said : List ℕ × ℤ)
    (Refuses : RepositoryFault → Type 0) (why : CommandFault) → found ≡ Ok said
    → IsShelfFault Refuses why ⊎ (why ≡ fault.Ledger ledger.Memory)
    → IsCreditFault found Refuses why
said_so said Refuses why is later =
    subst (λ found. IsCreditFault found Refuses why) (sym is) later
