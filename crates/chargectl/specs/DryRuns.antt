-- Dry runs: a ruling is tried on a copy of the books. What is answered by the books as they are, what
-- is done to the copy, and what is told of it.
use Rattle.std.specs.Prelude.{◌≡◌, ◌⊎◌, Bool, false, ℕ, ℤ, List, [], Option, None}
use Rattle.std.specs.Prelude.{Result, Ok, Err, IfOk, Vec, string_bytes}
use Rattle.std.specs.Global.{Global}
use Rattle.std.proofs.Common.{inl, inr, sym, subst}
use Rattle.tariff_rules.specs.declared.fault.TariffFault.{TariffFault}
use Rattle.book_model.specs.declared.fault.LedgerFault.{LedgerFault}
use Rattle.book_model.specs.declared.fault.LedgerFault.TheVariants.{Memory, TariffRefused}
use Rattle.book_model.specs.Words.{AreMadeOf, Book, Event, Naming, Note, Terms, adopt_outcome}
use Rattle.book_model.specs.Words.{choose_outcome, close_outcome, note_given, tariff_outcome}
use Rattle.book_model.specs.Words.{terms_in}
use Rattle.book_model.specs.Words.{credit_outcome, replace_outcome, withhold_outcome}
use Rattle.book_core.specs.Follow.{MakesAnswered}
use Rattle.book_core.specs.Transition.{Transition}
use Rattle.report_texts.specs.declared.dry_runs.TriedRuling.{TriedRuling}
use Rattle.report_texts.specs.declared.dry_runs.TriedRuling.TheVariants as tried
use Rattle.report_texts.specs.declared.figures.Figures.{Figures}
use Rattle.report_texts.specs.DryRuns.{dry_answer, dry_run_text}
use Rattle.book_reports.specs.BookTexts.{shown_by}
use Rattle.named_books.specs.declared.repository.RepositoryFault.{RepositoryFault}
use Rattle.office.specs.declared.request.Asked.{Asked}
use Rattle.office.specs.declared.request.Asked.TheVariants as asks
use Rattle.office.specs.declared.request.OwnedRuling.TheVariants as owned
use Rattle.office.specs.declared.request.Answer.{Answer}
use Rattle.office.specs.declared.request.Answer.TheVariants as answers
use Rattle.office.specs.Outcomes.{asked_outcome, is_hindered}
use Rattle.office.specs.Requests as office
use Rattle.office.specs.Requests.{IsAskableRuling, Response, Text, response_by}
use Rattle.office.specs.Runs.{AsksWithoutReader, dump_here}
use Rattle.named_books.specs.Shelves.{Shelf, IsThere, IsTried, IsUntouched}
use Rattle.office.proofs.LawLemmas.{asks_answered}
use Rattle.command_line.specs.declared.request.BookRequest.{BookRequest}
use Rattle.command_line.specs.declared.request.BookRequest.TheVariants as to_books
use Rattle.command_line.specs.declared.request.Ruling.{Ruling}
use Rattle.without_books.specs.declared.command_fault.CommandFault.{CommandFault}
use Rattle.without_books.specs.declared.ended.Ended.{Ended}
use Rattle.without_books.specs.declared.notice.Notice.{Notice}
use Rattle.without_books.specs.Inputs.{Files}
use Rattle.chargectl.specs.declared.dated_rulings.DatedAnswer.{DatedAnswer}
use Rattle.chargectl.specs.declared.answered.Answered.{Answered}
use Rattle.chargectl.specs.Commands.{AsksNothing, IsAskedBy, Tells, answer_of, answer_told, notice_of}
use Rattle.chargectl.specs.Far.{far_notice, notice_by}

-- what the office is asked for a ruling is just what its words ask, or there was a fault before
abbrev pub IsAskedFor : Files → BookRequest → (RepositoryFault → Type 0) → Result Asked CommandFault
    → Type 0
IsAskedFor files request Refuses (Ok asked) = IsAskedBy files request asked × IsAskableRuling asked
IsAskedFor files request Refuses (Err why) = AsksNothing files request Refuses why

-- A ruling, as its dry run names it: a tariff by its first day.
abbrev pub IsNamedBy : Asked → TriedRuling → Type 0
IsNamedBy (asks.Rule (owned.Tariff text) said) named =
    (terms : Terms) × (terms_in (string_bytes text) ≡ Ok terms) ×
    (named ≡ tried.Tariff terms.effective)
IsNamedBy (asks.Rule (owned.Close period through) said) named = named ≡ tried.Close period through
IsNamedBy (asks.Rule (owned.Choose name) said) named = named ≡ tried.Choose name
IsNamedBy (asks.Rule (owned.Adopt rule) said) named = named ≡ tried.Adopt
IsNamedBy (asks.Rule (owned.Replace text) said) named =
    (terms : Terms) × (terms_in (string_bytes text) ≡ Ok terms) ×
    (named ≡ tried.Replace terms.effective)
IsNamedBy (asks.Rule (owned.Withhold name) said) named = named ≡ tried.Withhold name
IsNamedBy (asks.Rule (owned.Credit period centre amount reason) said) named =
    named ≡ tried.Credit period centre
IsNamedBy asked named = ⊥

-- why it has no name: the text is no tariff
abbrev pub IsUnnamed : Asked → LedgerFault → Type 0
IsUnnamed (asks.Rule (owned.Tariff text) said) fault =
    (why : TariffFault) × (terms_in (string_bytes text) ≡ Err why) × (fault ≡ TariffRefused why)
IsUnnamed (asks.Rule (owned.Replace text) said) fault =
    (why : TariffFault) × (terms_in (string_bytes text) ≡ Err why) × (fault ≡ TariffRefused why)
IsUnnamed asked fault = ⊥

-- What is shown by the answer to the ruling, a text, and what is noticed: nothing else is answered to one.
abbrev pub IsShown : TriedRuling → ℕ → Figures → Figures → Bool → Answer
    → Result (Vec ℕ Global × Option Notice) LedgerFault → Type 0
IsShown ruling period before after far answer (Err fault) = fault ≡ Memory
IsShown ruling period before after far (answers.Ruled ruled) (Ok shown) =
    (shown.0.items ≡ dry_run_text ruling ruled period before after)
    × (shown.1 ≡ notice_by far (Ok (office.Ruling ruled)))
IsShown ruling period before after far answer (Ok shown) = ⊥

-- the same, as the answer to a ruling of a day; of a refusal nothing is noticed
abbrev pub dated_by : Result (Vec ℕ Global × Option Notice) LedgerFault → DatedAnswer
dated_by (Ok shown) = record { answer = Ok (answers.Text shown.0); notice = shown.1 }
dated_by (Err fault) = record { answer = Err fault; notice = None }

-- what is answered to the text of a tariff, by the result of reading it
abbrev pub tariff_tried : Naming → Option Note → List ℕ → Result Terms TariffFault → Book
    → Result (List ℕ) LedgerFault
tariff_tried naming noted text (Ok terms) book =
    dry_answer naming (tried.Tariff terms.effective) (tariff_outcome noted text book) book
tariff_tried naming noted text (Err why) book = Err (TariffRefused why)

-- the same in the place of another
abbrev pub replacement_tried : Naming → Option Note → List ℕ → Result Terms TariffFault → Book
    → Result (List ℕ) LedgerFault
replacement_tried naming noted text (Ok terms) book =
    dry_answer naming (tried.Replace terms.effective) (replace_outcome noted text book) book
replacement_tried naming noted text (Err why) book = Err (TariffRefused why)

-- What is told of a ruling that was tried, by the book before it: its refusal, or the text of the figures of
-- this book and of the book after it.
abbrev pub TellsDry : Naming → Asked → Book → Result Response LedgerFault → Type 0
TellsDry naming (asks.Rule (owned.Tariff text) said) book told =
    told ≡ shown_by Text
    (tariff_tried naming (note_given said) (string_bytes text) (terms_in (string_bytes text)) book)
TellsDry naming (asks.Rule (owned.Close period through) said) book told =
    told ≡ shown_by Text
    (dry_answer naming (tried.Close period through) (close_outcome
    (note_given said) period through book) book)
TellsDry naming (asks.Rule (owned.Choose name) said) book told =
    told ≡ shown_by Text
    (dry_answer naming (tried.Choose name) (choose_outcome naming (note_given said) name book) book)
TellsDry naming (asks.Rule (owned.Adopt rule) said) book told =
    told ≡ shown_by Text (dry_answer naming tried.Adopt (adopt_outcome
    (note_given said) rule book) book)
TellsDry naming (asks.Rule (owned.Replace text) said) book told =
    told ≡ shown_by Text
    (replacement_tried naming (note_given said) (string_bytes text)
    (terms_in (string_bytes text)) book)
TellsDry naming (asks.Rule (owned.Withhold name) said) book told =
    told ≡ shown_by Text
    (dry_answer naming (tried.Withhold name) (withhold_outcome naming
    (note_given said) name book) book)
TellsDry naming (asks.Rule (owned.Credit period centre amount reason) said) book told =
    told ≡ shown_by Text
    (dry_answer naming (tried.Credit period centre)
    (credit_outcome (note_given said) period centre amount (string_bytes reason) book) book)
TellsDry naming asked book told = ⊥

-- what the ruling would be answered by a book
abbrev pub ruled_told : Naming → Asked → Book → Result Response LedgerFault
ruled_told naming asked book = (asked_outcome naming asked (dump_here asked) book).told

-- that is told, and the day of the ruling is noticed as if it were in force
pub record ShowsDry (naming : Naming) (today : Option ℤ) (asked : Asked) (book : Book)
    (told : Result Response LedgerFault) (noticed : Option Notice) : Type 0 where
  pub told_so : TellsDry naming asked book told
  pub notice : noticed ≡ far_notice today asked book (ruled_told naming asked book)

-- the ruling was asked for, whatever it was answered
pub record IsRuled (naming : Naming) (asked : Asked) (was : Bool) (before : Book)
    (events : List Event)
    : Type 0 where
  pub answer : Result Answer LedgerFault
  pub left : Bool
  pub made : AsksWithoutReader naming asked answer was before events left

-- This is a text; or a fault, and nothing is noticed of it.
abbrev pub IsTextOrFault : Result Answer LedgerFault → Option Notice → Type 0
IsTextOrFault (Ok (answers.Text text)) noticed = Unit {0}
IsTextOrFault (Ok answer) noticed = ⊥
IsTextOrFault (Err fault) noticed = noticed ≡ None

-- so it is with all that a dry run answers, whatever the books are
abbrev pub IsDryAnswer : DatedAnswer → Type 0
IsDryAnswer dated = IsTextOrFault dated.answer dated.notice

-- A ruling was tried once on open books, and this was told and noticed, unless a lack of memory or the
-- store hindered it. Of the books it made what the ruling makes, or nothing.
pub record TriesOnce (naming : Naming) (today : Option ℤ) (asked : Asked)
    (told : Result Response LedgerFault) (noticed : Option Notice) (was : Bool) (before : Book)
    (events : List Event) (is : Bool) : Type 0 where
  pub shows : was ≡ false → is_hindered told ≡ false
      → ShowsDry naming today asked before told noticed
  pub made : (events ≡ []) ⊎ IsRuled naming asked was before events

-- what a visit to the copy did that tried this once, by what came of it
abbrev pub TriesOnceBy : Naming → Option ℤ → Asked → DatedAnswer → Transition
TriesOnceBy naming today asked dated =
    TriesOnce naming today asked (response_by dated.answer) dated.notice

-- it makes events that the books answered
pub tried_answered : (naming : Naming) (today : Option ℤ) (asked : Asked) (dated : DatedAnswer)
    → MakesAnswered naming (TriesOnceBy naming today asked dated)
tried_answered naming today asked dated book was events is once = made_answered once.made
  where
    made_answered : (events ≡ []) ⊎ IsRuled naming asked was book events
        → AreMadeOf naming book events
    made_answered (inl none) = subst (AreMadeOf naming book) (sym none) tt
    made_answered (inr ruled) =
        asks_answered naming asked (dump_here asked) (response_by ruled.answer) book was events
        ruled.left ruled.made

-- The books of a name were visited as a copy, and this was tried on it once: they are as they were.
pub record IsTriedOnce (today : Option ℤ) (asked : Asked) (book : List ℕ) (old new : Shelf)
    (answered : Answered) : Type 0 where
  pub told : Result DatedAnswer RepositoryFault
  pub tried : IsTried (TriesOnceBy old.naming today asked) book old new told
  pub form : IfOk told IsDryAnswer
  pub there : IsThere book old new told
  pub says : answered.answer ≡ answer_of (answer_told told)
  pub notice : answered.notice ≡ notice_of told
  pub log : new.has_log book answered.has_log
  pub change : answered.is_change ≡ false

-- a command tried what its words ask
pub record Trying (files : Files) (request : BookRequest) (book : List ℕ) (old new : Shelf)
    (answered : Answered) : Type 0 where
  pub asked : Asked
  pub words : IsAskedBy files request asked
  pub came : IsTriedOnce files.today asked book old new answered

-- What came of a dry run: just what the words ask was tried, once; or there was a fault before, which
-- the command without a dry run would have found.
abbrev pub ComesOfDryRun : Files → BookRequest → List ℕ → Shelf → Shelf
    → Result Answered CommandFault
    → Type 0
ComesOfDryRun files request book old new (Ok answered) = Trying files request book old new answered
ComesOfDryRun files request book old new (Err why) =
    AsksNothing files request (old.refuses book) why × IsUntouched book old new

-- A dry run of a ruling: what came of it, and what was told of that.
pub record TriesAndTells (files : Files) (ruling : Ruling) (book : List ℕ) (old new : Shelf)
    (held holds : Option (List ℕ)) (Failed : Type 0) (ended : Ended) : Type 0 where
  pub answered : Result Answered CommandFault
  pub comes : ComesOfDryRun files (to_books.Rule ruling) book old new answered
  pub tells : Tells answered held holds Failed ended
