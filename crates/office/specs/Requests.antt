-- What is asked of books, what they answer, and what it does to them.
use Rattle.std.specs.Prelude.{◌≡◌, ℕ, ◌+◌, ◌≤◌, ◌^◌, false, List, [], Option, None, Result}
use Rattle.std.specs.Prelude.{Ok, string_bytes}
use Rattle.smf_frames.specs.declared.dump.Layout.{Layout}
use Rattle.smf_frames.specs.declared.dump.Layout.TheVariants.{Rdw}
use Rattle.streams.specs.AnswerFlags.{NothingUnread}
use Rattle.streams.specs.InputOutput.{ReaderSeen, Input}
use Rattle.book_model.specs.declared.answer.Ruled as ruled
use Rattle.book_model.specs.declared.fault.LedgerFault.{LedgerFault}
use Rattle.book_model.specs.Words.{AdoptionAsked, Book, ChoiceAsked, CloseAsked, MayBeAsked, Naming}
use Rattle.book_model.specs.Words.{Note, Outcome, RulingAsked, TariffAsked, rule_outcome}
use Rattle.book_model.specs.Words.{CreditAsked}
use Rattle.book_model.specs.Words.{ReplacementAsked, WithholdingAsked, note_given}
use Rattle.book_core.specs.Calls.{Calls}
use Rattle.book_core.specs.Transition.{Transition, IsTransition}
use Rattle.book_core.specs.Ledgers.{Books}
use Rattle.book_import.specs.declared.receipt.Receipt as receipt
use Rattle.book_model.specs.declared.note.Stop.{Stop}
use Rattle.book_import.specs.ImportEntries.{ImportsOf}
use Rattle.book_import.specs.Reach.{IsReadTo}
use Rattle.book_import.specs.ReadLimits.{cut_by, most_reads, read_length}
use Rattle.book_reports.specs.BookTexts.{shown_by, report_outcome}
use Rattle.book_reports.specs.WhatIfTexts.{what_if_report}
use Rattle.office.specs.declared.request.Asked.{Asked}
use Rattle.office.specs.declared.request.Asked.TheVariants.{Import, ImportBytes, Report, Rule}
use Rattle.office.specs.declared.request.Asked.TheVariants.{WhatIf}
use Rattle.office.specs.declared.request.OwnedRuling.{OwnedRuling}
use Rattle.office.specs.declared.request.OwnedRuling.TheVariants as owned
use Rattle.office.specs.declared.request.Answer.{Answer}
use Rattle.office.specs.declared.request.Answer.TheVariants as answer

-- the bytes of a dump, and what cut their reading short, if anything did
pub record Dump : Type 0 where
  pub layout : Layout
  pub cut : Option Stop
  pub bytes : List ℕ

-- what the books answer: about a ruling, about a dump, or with a report's text
pub data Response : Type 0 where
  Ruling : ruled.Ruled → Response
  Count : receipt.Receipt → Response
  Text : List ℕ → Response

abbrev pub response_of : Answer → Response
response_of (answer.Ruled ruled) = Ruling ruled
response_of (answer.Receipt receipt) = Count receipt
response_of (answer.Text text) = Text text.items

abbrev pub response_by : Result Answer LedgerFault → Result Response LedgerFault
response_by answer = shown_by response_of answer

-- the outcome of a call, as an answer
abbrev pub response_outcome : {A : Type 0} → (A → Response) → (Book → Outcome A) → Book
    → Outcome Response
response_outcome say outcome book =
    record { answer = shown_by say (outcome book).answer; event = (outcome book).event }

-- a reader may be asked on
pub record IsReady (reader : ReaderSeen) : Type 0 where
  pub reads : reader.reads ≤ 2 ^ 62
  pub failed : reader.has_failed ≡ false
  pub ended : reader.has_ended ≡ false

-- a ruling, as a ledger is asked for it
abbrev pub ruling_of : OwnedRuling → RulingAsked
ruling_of (owned.Tariff text) = TariffAsked (string_bytes text)
ruling_of (owned.Close period through) = CloseAsked period through
ruling_of (owned.Choose name) = ChoiceAsked name
ruling_of (owned.Adopt rule) = AdoptionAsked rule
ruling_of (owned.Replace text) = ReplacementAsked (string_bytes text)
ruling_of (owned.Withhold name) = WithholdingAsked name
ruling_of (owned.Credit period centre amount reason) =
    CreditAsked period centre amount (string_bytes reason)

-- What may be asked with a reader that has not been asked yet: a close is through a day, and a credit
-- is within the limits.
abbrev pub IsAskableUnread : Asked → Type 0
IsAskableUnread (Rule ruling said) = MayBeAsked (ruling_of ruling)
IsAskableUnread asked = Unit {0}

-- It may be asked of books with this reader: a dump is read from one that may be asked.
abbrev pub IsAskable : Asked → ReaderSeen → Type 0
IsAskable (Import layout said) reader = IsReady reader
IsAskable asked reader = IsAskableUnread asked

-- it is a ruling, and may be asked
abbrev pub IsAskableRuling : Asked → Type 0
IsAskableRuling (Rule ruling said) = MayBeAsked (ruling_of ruling)
IsAskableRuling asked = ⊥

-- the bytes of a dump were taken for this receipt, and no more than it needed
abbrev pub IsReadBy : Option Note → Dump → Result Response LedgerFault → Input → Type 0
IsReadBy said dump (Ok (Count receipt)) input =
    IsReadTo said read_length dump.layout most_reads dump.bytes receipt input
IsReadBy said dump told input = ⊥

-- A dump was read from a reader, up to the stop of its receipt and no further.
pub record IsReadOf (said : Option Note) (layout : Layout) (dump : Dump)
    (told : Result Response LedgerFault) (input : Input) : Type 0 where
  pub form : dump.layout ≡ layout
  pub cut : dump.cut ≡ cut_by input.new
  pub read : IsReadBy said dump told input
  pub at_end : NothingUnread input.new.has_ended input.new.left
  pub reads : input.new.reads ≤ input.old.reads + most_reads

-- nothing was read from the reader, and this is the dump
pub record IsUnread (dump found : Dump) (input : Input) : Type 0 where
  pub is : found ≡ dump
  pub same : input.new ≡ input.old

abbrev pub whole_dump : Layout → List ℕ → Dump
whole_dump layout bytes = record { layout = layout; cut = None; bytes = bytes }

-- the dump of a request that has none
abbrev pub no_dump : Dump
no_dump = whole_dump Rdw []

-- The dump of what was asked, and what it took from the reader: only an import has one, and one
-- that is here is not read.
abbrev pub Gives : Asked → Dump → Result Response LedgerFault → Input → Type 0
Gives (Import layout said) dump told input = IsReadOf (note_given said) layout dump told input
Gives (ImportBytes layout bytes said) dump told input =
    IsUnread (whole_dump layout bytes.items) dump input
Gives asked dump told input = IsUnread no_dump dump input

-- no such work is done
abbrev pub Never : Transition
Never was before events is = ⊥

-- a dump was imported with such a note, and that is its receipt
abbrev pub Receives : Option Note → Naming → Dump → Result Response LedgerFault → Transition
Receives said naming dump (Ok (Count receipt)) =
    ImportsOf said naming dump.layout dump.cut dump.bytes receipt
Receives said naming dump told = Never

-- The books were asked, and answered this. A ruling that was done has its note in the journal.
abbrev pub Asks : Naming → Asked → Dump → Result Response LedgerFault → Transition
Asks naming (Rule ruling said) dump told =
    Calls (λ told. told)
    (response_outcome Ruling (rule_outcome naming (note_given said) (ruling_of ruling))) told
Asks naming (Import layout said) dump told = Receives (note_given said) naming dump told
Asks naming (ImportBytes layout bytes said) dump told = Receives (note_given said) naming dump told
Asks naming (Report report) dump told =
    Calls (λ told. told) (response_outcome Text (report_outcome naming report)) told
Asks naming (WhatIf report tariff) dump told =
    Calls (λ told. told) (response_outcome Text (what_if_report report (string_bytes tariff))) told

-- A dump in this layout was read from a reader, and was imported into books with such a note.
pub record IsReceivedOf (said : Option Note) (layout : Layout) (told : receipt.Receipt)
    (books : Books) (input : Input) : Type 0 where
  pub dump : Dump
  pub given : IsReadOf said layout dump (Ok (Count told)) input
  pub work : IsTransition books.old books.new
      (Receives said books.old.naming dump (Ok (Count told)))

-- Something was asked of books, with a reader at hand, and this is their answer.
pub record IsAsked (asked : Asked) (answer : Result Answer LedgerFault) (books : Books)
    (input : Input) : Type 0 where
  pub dump : Dump
  pub given : Gives asked dump (response_by answer) input
  pub work : IsTransition books.old books.new (Asks books.old.naming asked dump
      (response_by answer))
