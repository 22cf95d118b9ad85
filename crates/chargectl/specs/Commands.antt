-- What each command on books asks of the office, what is written, and how it ends.
use Rattle.std.specs.Prelude.{◌≡◌, ◌⊎◌, ⊤, Bool, true, false, ℕ, List, [], Option, Some, None}
use Rattle.std.specs.Prelude.{Result, Ok, Err, IfSome, string_bytes, option_and_then, option_map, ℤ}
use Rattle.std.specs.Prelude.{if◌then◌else◌}
use Rattle.std.specs.Borrow.{Bor}
use Rattle.std.specs.Io.KnownBytes.{Keeps}
use Rattle.streams.specs.InputOutput.{Input}
use Rattle.book_model.specs.declared.fault.LedgerFault.{LedgerFault}
use Rattle.book_model.specs.declared.fault.LedgerFault.TheVariants as ledger
use Rattle.book_model.specs.Words.{day_of_text_of, is_reason, Book, Event, Naming}
use Rattle.book_core.specs.Words.{MakesAnswered, Transition}
use Rattle.book_reports.specs.declared.report.Report.{Report}
use Rattle.book_reports.specs.declared.what_if.StatementForm.{StatementForm}
use Rattle.book_reports.specs.declared.what_if.WhatIf.{WhatIf}
use Rattle.book_reports.specs.BookTexts.{centre_named}
use Rattle.named_books.specs.declared.repository.RepositoryFault.{RepositoryFault}
use Rattle.office.specs.declared.request.Asked.{Asked}
use Rattle.office.specs.declared.request.Answer.{Answer}
use Rattle.office.specs.Requests.{Dump, Response, Asks, Gives, response_of, response_by}
use Rattle.office.specs.Answers.{answer_text}
use Rattle.named_books.specs.Shelves.{Shelf, IsOpened, IsThere, IsUntouched}
use Rattle.office.proofs.LawLemmas.{asks_answered}
use Rattle.command_line.specs.declared.request.BookRequest.{BookRequest}
use Rattle.command_line.specs.declared.request.PeriodWords.{PeriodWords}
use Rattle.command_line.specs.declared.request.ReportAsked.{ReportAsked}
use Rattle.command_line.specs.declared.request.Ruling.{Ruling}
use Rattle.command_line.specs.declared.request.Words.{Words}
use Rattle.report_rows.specs.ReportRows.{page_of, report_about}
use Rattle.report_rows.specs.declared.about.About.{About}
use Rattle.report_rows.specs.declared.report_row.ReportName.{ReportName}
use Rattle.program_output.specs.Marks.{is_receipt_torn}
use Rattle.program_output.specs.Names.{name_in}
use Rattle.without_books.specs.declared.command_fault.CommandFault.{CommandFault}
use Rattle.without_books.specs.declared.ended.Ended.{Ended}
use Rattle.without_books.specs.declared.notice.Notice.{Notice}
use Rattle.without_books.specs.Faults.{end_of, shelf_fault, without_log}
use Rattle.without_books.specs.DumpEnds.{dump_notice}
use Rattle.without_books.specs.FirstBytes.{IsLookedAt}
use Rattle.without_books.specs.Inputs.{Files}
use Rattle.without_books.specs.Reading.{IsUnfit}
use Rattle.chargectl.specs.declared.dated_rulings.DatedAnswer.{DatedAnswer}
use Rattle.chargectl.specs.declared.answered.Answered.{Answered}
use Rattle.chargectl.specs.Amounts.{amount_in}
use Rattle.chargectl.specs.Far.{far_notice}
use Rattle.office.specs.declared.request.Asked.TheVariants as asks
use Rattle.office.specs.declared.request.OwnedRuling.TheVariants as owned
use Rattle.office.specs.declared.request.Answer.TheVariants as answers
use Rattle.command_line.specs.declared.request.BookRequest.TheVariants as book
use Rattle.command_line.specs.declared.request.Ruling.TheVariants as ruling
use Rattle.command_line.specs.declared.request.Words.TheVariants as worded
use Rattle.report_rows.specs.declared.about.About.TheVariants as about
use Rattle.without_books.specs.declared.command_fault.CommandFault.TheVariants as fault
pub use Rattle.without_books.specs.Faults.{IsFileFault, IsPrinted, IsTextFault}

-- the centre that is asked for, if that is a name; or none, for the whole office
abbrev pub asked_centre : Option (Bor (List ℕ)) → Option (Option (List ℕ))
asked_centre None = Some None
asked_centre (Some text) = option_map Some (centre_named text.now)

-- the tariff of a day that another took the place of, by the SHA-256 of its text
abbrev pub replaced_by : Option ℤ → Option (List ℕ) → Option About
replaced_by (Some day) (Some digest) = Some (about.OfReplaced day digest)
replaced_by day digest = None

-- what words say that a report is about, if each of them is what it has to be
abbrev pub about_of : Words → Option About
about_of (worded.OfCentre period) =
    option_map (about.OfCentre period.number) (asked_centre period.centre)
about_of (worded.OfPeriod period) = Some (about.OfPeriod period)
about_of worded.OfOffice = Some about.OfOffice
about_of (worded.OfDay date) = option_map about.OfDay (day_of_text_of date.now)
about_of (worded.OfReplaced date digest) = replaced_by (day_of_text_of date.now)
    (name_in digest.now)
about_of (worded.OfRecord name) = option_map about.OfRecord (name_in name.now)

-- the report that they ask for, or its page
abbrev pub asked_name : ReportAsked → ReportName
asked_name asked = if asked.html then page_of asked.name else asked.name

abbrev pub report_of : ReportAsked → Option Report
report_of asked =
    option_and_then (report_about (asked_name asked) asked.form) (about_of asked.words)

-- a statement in this form by other prices, of one centre or of the whole office
abbrev pub what_if_for : StatementForm → ℕ → Option (List ℕ) → WhatIf
what_if_for form period centre = record { form = form; period = period; centre = centre }

-- the one that words ask for, if the centre is what it has to be
abbrev pub what_if_of : StatementForm → PeriodWords → Option WhatIf
what_if_of form period = option_map (what_if_for form period.number) (asked_centre period.centre)

-- what the words of a credit say: the centre and the amount; or which of them is none, the first before the
-- others
abbrev pub reason_said : List ℕ × ℤ → List ℕ → Result (List ℕ × ℤ) CommandFault
reason_said said reason = if is_reason reason then Ok said else Err fault.Reason

abbrev pub amount_said : List ℕ → Option ℤ → List ℕ → Result (List ℕ × ℤ) CommandFault
amount_said centre None reason = Err fault.Amount
amount_said centre (Some amount) reason = reason_said (centre, amount) reason

abbrev pub credit_said : Option (List ℕ) → Option ℤ → List ℕ → Result (List ℕ × ℤ) CommandFault
credit_said None amount reason = Err fault.Argument
credit_said (Some centre) amount reason = amount_said centre amount reason

abbrev pub credit_words : List ℕ → List ℕ → List ℕ → Result (List ℕ × ℤ) CommandFault
credit_words centre amount reason = credit_said (centre_named centre) (amount_in amount) reason

-- The table: what a command asks of the office. The text of a tariff is what the file of that name holds.
abbrev pub IsAskedBy : Files → BookRequest → Asked → Type 0
IsAskedBy files (book.Import dump) (asks.Import layout said) = layout ≡ dump.layout
IsAskedBy files (book.Rule (ruling.Tariff file)) (asks.Rule (owned.Tariff text) said) =
    IfSome (files.holds file.now) (λ held. string_bytes text ≡ held)
IsAskedBy files (book.Rule (ruling.Close period date)) (asks.Rule
    (owned.Close number through) said) =
    (number ≡ period) × (day_of_text_of date.now ≡ Some through)
IsAskedBy files (book.Rule (ruling.Choose name)) (asks.Rule (owned.Choose chosen) said) =
    name_in name.now ≡ Some chosen
IsAskedBy files (book.Rule ruling.Adopt) (asks.Rule (owned.Adopt rule) said) = rule ≡ 2
IsAskedBy files (book.Rule (ruling.Replace file)) (asks.Rule (owned.Replace text) said) =
    IfSome (files.holds file.now) (λ held. string_bytes text ≡ held)
IsAskedBy files (book.Rule (ruling.Withhold name)) (asks.Rule (owned.Withhold named) said) =
    name_in name.now ≡ Some named
IsAskedBy files (book.Rule (ruling.Credit period centre amount reason))
    (asks.Rule (owned.Credit number named value text) said) =
    (number ≡ period) × (credit_words centre.now amount.now reason.now ≡ Ok (named, value))
    × (string_bytes text ≡ reason.now)
IsAskedBy files (book.Report said) (asks.Report printed) = report_of said ≡ Some printed
IsAskedBy files (book.WhatIf form period file) (asks.WhatIf report text) =
    (what_if_of form period ≡ Some report)
    × IfSome (files.holds file.now) (λ held. string_bytes text ≡ held)
IsAskedBy files request asked = ⊥

-- it may change the books: a report may not, by whatever prices it is
abbrev pub may_change : Asked → Bool
may_change (asks.Report report) = false
may_change (asks.WhatIf report text) = false
may_change asked = true

-- The office was asked this once, with the dump that a reader of these bytes gave, and answered this.
pub record AsksOnce (naming : Naming) (asked : Asked) (had : Option (List ℕ))
    (told : Result Response LedgerFault) (was : Bool) (before : Book) (events : List Event)
    (is : Bool)
    : Type 0 where
  pub dump : Dump
  pub input : Input
  pub begun : input.old.left ≡ had
  pub given : Gives asked dump told input
  pub made : Asks naming asked dump told was before events is

-- one request makes events that the books answered
pub once_answered : (naming : Naming) (asked : Asked) (had : Option (List ℕ))
    (told : Result Response LedgerFault) → MakesAnswered naming (AsksOnce naming asked had told)
once_answered naming asked had told book was events is once =
    asks_answered naming asked once.dump told book was events is once.made

-- what a visit to the books did that asked this once, by its answer
abbrev pub AsksOnceBy : Naming → Asked → Option (List ℕ) → Result Answer LedgerFault → Transition
AsksOnceBy naming asked had told = AsksOnce naming asked had (response_by told)

-- The office was asked for a ruling once, which has no dump, and answered this; and this was noticed of
-- its day, as it is seen today, by the book before it.
pub record AsksDated (naming : Naming) (today : Option ℤ) (asked : Asked)
    (told : Result Response LedgerFault) (noticed : Option Notice) (was : Bool) (before : Book)
    (events : List Event) (is : Bool) : Type 0 where
  pub once : AsksOnce naming asked (Some []) told was before events is
  pub notice : noticed ≡ far_notice today asked before told

-- what a visit to the books did that asked for it, by what came of it
abbrev pub AsksDatedBy : Naming → Option ℤ → Asked → DatedAnswer → Transition
AsksDatedBy naming today asked dated =
    AsksDated naming today asked (response_by dated.answer) dated.notice

-- it makes events that the books answered
pub dated_answered : (naming : Naming) (today : Option ℤ) (asked : Asked) (dated : DatedAnswer)
    → MakesAnswered naming (AsksDatedBy naming today asked dated)
dated_answered naming today asked dated book was events is made =
    once_answered naming asked (Some []) (response_by dated.answer) book was events is made.once

-- the answer to a ruling of a day
abbrev pub answer_told : Result DatedAnswer RepositoryFault
    → Result (Result Answer LedgerFault) RepositoryFault
answer_told (Ok dated) = Ok dated.answer
answer_told (Err shelf) = Err shelf

-- what was noticed of it: nothing, where the books were not opened
abbrev pub notice_of : Result DatedAnswer RepositoryFault → Option Notice
notice_of (Ok dated) = dated.notice
notice_of (Err shelf) = None

-- what came of a request: its answer, its refusal, or why the books were not opened
abbrev pub answer_of : Result (Result Answer LedgerFault) RepositoryFault
    → Result Answer CommandFault
answer_of (Ok (Ok answer)) = Ok answer
answer_of (Ok (Err refusal)) = Err (fault.Ledger refusal)
answer_of (Err shelf) = Err (shelf_fault shelf)

-- The books of a name were opened, if there are any, and the office was asked this once, with a reader of
-- these bytes.
pub record IsAnswered (asked : Asked) (had : Option (List ℕ)) (book : List ℕ) (old new : Shelf)
    (answered : Answered) : Type 0 where
  pub told : Result (Result Answer LedgerFault) RepositoryFault
  pub done : IsOpened (AsksOnceBy old.naming asked had) book old new told
  pub there : IsThere book old new told
  pub says : answered.answer ≡ answer_of told
  pub log : new.has_log book answered.has_log
  pub change : answered.is_change ≡ may_change asked

-- The place of the books refused them for such a reason: it failed, others have them, there is
-- nothing of that name or something already, or what is there are no books that can be read.
abbrev pub IsShelfFault : (RepositoryFault → Type 0) → CommandFault → Type 0
IsShelfFault Refuses why = (shelf : RepositoryFault) × Refuses shelf × (why ≡ shelf_fault shelf)

-- so it was, and nothing was done or written
abbrev pub IsRefusedBy : List ℕ → Shelf → Shelf → Option (List ℕ) → Option (List ℕ) → CommandFault
    → Type 0
IsRefusedBy book old new held holds why =
    IsShelfFault (old.refuses book) why × IsUntouched book old new × (holds ≡ held)

-- that, or the file of a tariff failed, or what it has is no text, or too long a one
abbrev pub IsTariffFault : Option (List ℕ) → (RepositoryFault → Type 0) → CommandFault → Type 0
IsTariffFault had Refuses why = IsShelfFault Refuses why ⊎ IsTextFault had why

-- a word is not what it has to be, before anything else; or else there is a fault of this kind
abbrev pub IsWordFault : {A : Type 0} → Option A → (CommandFault → Type 0) → CommandFault → Type 0
IsWordFault None IsLater why = why ≡ fault.Argument
IsWordFault (Some read) IsLater why = IsLater why

-- the words of a credit are not what they have to be, before anything else; or else the books were refused,
-- or there was no memory for the reason
abbrev pub IsCreditFault : Result (List ℕ × ℤ) CommandFault → (RepositoryFault → Type 0)
    → CommandFault
    → Type 0
IsCreditFault (Err said) Refuses why = why ≡ said
IsCreditFault (Ok said) Refuses why = IsShelfFault Refuses why ⊎ (why ≡ fault.Ledger ledger.Memory)

-- why a command asks nothing, of books that are refused for these reasons
abbrev pub AsksNothing : Files → BookRequest → (RepositoryFault → Type 0) → CommandFault → Type 0
AsksNothing files (book.Import dump) Refuses why =
    IsShelfFault Refuses why ⊎ IsUnfit (files.holds dump.file.now) dump.layout dump.whole why
AsksNothing files (book.Rule (ruling.Tariff file)) Refuses why =
    IsTariffFault (files.holds file.now) Refuses why
AsksNothing files (book.Rule (ruling.Close period date)) Refuses why =
    IsWordFault (day_of_text_of date.now) (IsShelfFault Refuses) why
AsksNothing files (book.Rule (ruling.Choose name)) Refuses why =
    IsWordFault (name_in name.now) (IsShelfFault Refuses) why
AsksNothing files (book.Rule (ruling.Replace file)) Refuses why =
    IsTariffFault (files.holds file.now) Refuses why
AsksNothing files (book.Rule (ruling.Withhold name)) Refuses why =
    IsWordFault (name_in name.now) (IsShelfFault Refuses) why
AsksNothing files (book.Rule (ruling.Credit period centre amount reason)) Refuses why =
    IsCreditFault (credit_words centre.now amount.now reason.now) Refuses why
AsksNothing files (book.Report said) Refuses why =
    IsWordFault (report_of said) (IsShelfFault Refuses) why
AsksNothing files (book.WhatIf form period file) Refuses why =
    IsWordFault (what_if_of form period) (IsTariffFault (files.holds file.now) Refuses) why
AsksNothing files request Refuses why = IsShelfFault Refuses why

-- what an import notices of a dump that had to be whole or not, and looked misread or not
abbrev pub answer_notice : Bool → Bool → Result Answer CommandFault → Option Notice
answer_notice whole looked (Ok (answers.Receipt receipt)) =
    dump_notice whole looked (is_receipt_torn receipt) receipt.stop
answer_notice whole looked told = None

-- The books of a name were opened and the office was asked for a ruling of a day, and this was answered
-- and noticed.
pub record IsDated (today : Option ℤ) (asked : Asked) (book : List ℕ) (old new : Shelf)
    (answered : Answered) : Type 0 where
  pub told : Result DatedAnswer RepositoryFault
  pub done : IsOpened (AsksDatedBy old.naming today asked) book old new told
  pub says : answered.answer ≡ answer_of (answer_told told)
  pub notice : answered.notice ≡ notice_of told

-- What a command noticed beside its answer: of a tariff and a close whether the day is far, of an import
-- whether the dump looked misread or is torn, of others nothing.
abbrev pub IsNoticedBy : Files → BookRequest → Asked → List ℕ → Shelf → Shelf → Answered → Type 0
IsNoticedBy files (book.Rule (ruling.Tariff file)) asked name old new answered =
    IsDated files.today asked name old new answered
IsNoticedBy files (book.Rule (ruling.Close period date)) asked name old new answered =
    IsDated files.today asked name old new answered
IsNoticedBy files (book.Import dump) asked name old new answered =
    (looked : Bool) × IsLookedAt dump.layout (files.holds dump.file.now) looked
    × (answered.notice ≡ answer_notice dump.whole looked answered.answer)
IsNoticedBy files request asked name old new answered = answered.notice ≡ None

-- what the reader of a request had: of an import, what the file of its dump holds
abbrev pub HasDump : Files → BookRequest → Option (List ℕ) → Type 0
HasDump files (book.Import dump) had = Keeps (files.holds dump.file.now) had
HasDump files request had = ⊤

-- a ruling has a day, which may be far from the records; a tariff in the place of another has the day of
-- that one
abbrev pub is_dated : Ruling → Bool
is_dated (ruling.Tariff file) = true
is_dated (ruling.Close period date) = true
is_dated (ruling.Choose digest) = false
is_dated ruling.Adopt = false
is_dated (ruling.Replace file) = false
is_dated (ruling.Withhold digest) = false
is_dated (ruling.Credit period centre amount reason) = false

-- A command asked what its words ask.
pub record Asking (files : Files) (request : BookRequest) (book : List ℕ) (old new : Shelf)
    (answered : Answered) : Type 0 where
  pub asked : Asked
  pub words : IsAskedBy files request asked
  pub had : Option (List ℕ)
  pub came : IsAnswered asked had book old new answered
  pub dump : HasDump files request had
  pub notice : IsNoticedBy files request asked book old new answered

-- What came of a command: the office was asked just what its words ask, once; or nothing was asked.
abbrev pub ComesOf : Files → BookRequest → List ℕ → Shelf → Shelf → Result Answered CommandFault
    → Type 0
ComesOf files request book old new (Ok answered) = Asking files request book old new answered
ComesOf files request book old new (Err why) =
    AsksNothing files request (old.refuses book) why × IsUntouched book old new

-- the first fault
abbrev pub first_fault : Result (Unit {0}) CommandFault → Result (Unit {0}) CommandFault
    → Result (Unit {0}) CommandFault
first_fault (Ok done) later = later
first_fault (Err fault) later = Err fault

-- how a command ends whose answer was written, or why not: an import that stopped says so
abbrev pub ends_by : Answer → Result (Unit {0}) CommandFault → Result (Unit {0}) CommandFault
ends_by (answers.Receipt receipt) written = first_fault (end_of receipt.stop) written
ends_by answer written = written

-- What a command writes of an answer, and how it ends. Of a fault nothing is written.
abbrev pub IsTold : Result Answer CommandFault → Option (List ℕ) → Option (List ℕ) → Type 0
    → Result (Unit {0}) CommandFault → Type 0
IsTold (Ok answer) held holds Failed came = (written : Result (Unit {0}) CommandFault)
    × IsPrinted (answer_text (response_of answer)) held holds Failed written
    × (came ≡ ends_by answer written)
IsTold (Err fault) held holds Failed came = (holds ≡ held) × (came ≡ Err fault)

-- with what the books left, whether they may have changed, and what was noticed
pub record TellsAnswered (answered : Answered) (held holds : Option (List ℕ)) (Failed : Type 0)
    (ended : Ended) : Type 0 where
  pub told : IsTold answered.answer held holds Failed ended.came
  pub log : ended.has_log ≡ answered.has_log
  pub change : ended.is_change ≡ answered.is_change
  pub notice : ended.notice ≡ answered.notice

-- and where nothing was asked
abbrev pub Tells : Result Answered CommandFault → Option (List ℕ) → Option (List ℕ) → Type 0 → Ended
    → Type 0
Tells (Ok answered) held holds Failed ended = TellsAnswered answered held holds Failed ended
Tells (Err why) held holds Failed ended = (holds ≡ held) × (ended ≡ without_log (Err why))

-- A command that asks the office: what came of it, and what was told of that.
pub record AsksAndTells (files : Files) (request : BookRequest) (book : List ℕ) (old new : Shelf)
    (held holds : Option (List ℕ)) (Failed : Type 0) (ended : Ended) : Type 0 where
  pub answered : Result Answered CommandFault
  pub comes : ComesOf files request book old new answered
  pub tells : Tells answered held holds Failed ended
