-- Commands, one after the other, on books that are kept by their names: each tells what the definitions
-- give for the whole history before it.
use Rattle.std.specs.Prelude.{◌≡◌, ◌≢◌, ◌⊎◌, ⊤, Bool, false, ℕ, List, [], ◌∷◌, ◌++◌, Option, None}
use Rattle.std.specs.Prelude.{IfErr, IfOk, OnErr, OnOk, Result, Ok, Err, Some, String, true, ℤ}
use Rattle.std.specs.Global.{Global}
use Rattle.std.specs.declared.alloc.AllocError.{AllocError}
use Rattle.smf_frames.specs.declared.dump.Layout.{Layout}
use Rattle.streams.specs.Failures.{HasFailed}
use Rattle.streams.specs.InputOutput.{Input}
use Rattle.tariff_rules.specs.Limits.{most_rate}
use Rattle.book_model.specs.declared.fault.LedgerFault.{LedgerFault}
use Rattle.book_model.specs.declared.fault.LedgerFault.TheVariants.{Store}
use Rattle.book_model.specs.declared.note.Stop.TheVariants.{End}
use Rattle.book_model.specs.Words.{Book, Event, IsMadeByCalls, Naming, Note, book_after, book_of}
use Rattle.book_core.specs.Transition.{Transition, NoEvent, Then}
use Rattle.book_audit.specs.Counts.{AreCountsOf}
use Rattle.book_audit.specs.declared.audited.Audited.{Audited}
use Rattle.book_audit.specs.declared.audited.Audited.TheVariants.{Sound, Unsound}
use Rattle.book_http.specs.declared.served.Served.{Served}
use Rattle.book_http.specs.declared.served.Served.TheVariants as served
use Rattle.book_import.specs.declared.names_in_dumps.DumpNames.{DumpNames}
use Rattle.book_lists.specs.declared.fault.ReportFault.{ReportFault}
use Rattle.book_lists.specs.Streamed.{WritesUntilOrRefuses}
use Rattle.office.specs.declared.choosing.Chosen.{Chosen}
use Rattle.named_books.specs.declared.repository.RepositoryFault.{RepositoryFault}
use Rattle.office.specs.declared.request.Answer.{Answer}
use Rattle.office.specs.declared.request.Asked.{Asked}
use Rattle.office.specs.Choices.{ChoosesEach, are_hindered, choices_outcome}
use Rattle.office.specs.ImportWorks.{WithholdsImport}
use Rattle.office.specs.Laws.{but_for_entries}
use Rattle.office.specs.Outcomes.{asked_outcome, is_hindered}
use Rattle.office.specs.Requests.{Asks, Dump, Gives, response_by}
use Rattle.office.specs.Withholdings.{WithholdsSo}
use Rattle.office.specs.declared.withholding.WorksTold.{WorksTold}
use Rattle.named_books.specs.Shelves.{Shelf, OpenedAnew, WhereUnopened}
use Rattle.command_line.specs.declared.request.BookRequest.{BookRequest}
use Rattle.command_line.specs.declared.request.BookRequest.TheVariants as book
use Rattle.command_line.specs.declared.request.Request.{Request}
use Rattle.command_line.specs.declared.request.Request.TheVariants as request
use Rattle.command_line.specs.declared.request.Ruling.{Ruling}
use Rattle.command_line.specs.declared.fault.ArgumentFault.{ArgumentFault}
use Rattle.command_line.specs.Known.{AreReadAs, as_texts}
use Rattle.program_output.specs.declared.status.Status.{Status}
use Rattle.program_output.specs.Messages.{program_name}
use Rattle.without_books.specs.declared.command_fault.CommandFault.{CommandFault}
use Rattle.without_books.specs.declared.command_fault.CommandFault.TheVariants as fault
use Rattle.without_books.specs.declared.ended.Ended.{Ended}
use Rattle.without_books.specs.Faults.{IsFileFault, settled_as, status_by}
use Rattle.without_books.specs.Inputs.{Files}
use Rattle.chargectl.specs.declared.choices.ListAnswered.{ListAnswered}
use Rattle.chargectl.specs.declared.dated_rulings.DatedAnswer.{DatedAnswer}
use Rattle.chargectl.specs.declared.answered.Answered.{Answered}
use Rattle.chargectl.specs.declared.streamed_lists.StreamedList.{StreamedList}
use Rattle.chargectl.specs.Audits.{EndsAudit}
use Rattle.chargectl.specs.Choices.{AreAllOf, AreLinesOf, AreListed, ChoosesNothing, TellsList}
use Rattle.chargectl.specs.Choices.{chosen_of, front_of}
use Rattle.chargectl.specs.Commands.{AsksNothing, HasDump, IsAskedBy, IsShelfFault, Tells, answer_of}
use Rattle.chargectl.specs.Commands.{answer_told, first_fault, may_change, notice_of}
use Rattle.chargectl.specs.declared.near_rulings.NearAnswer.{NearAnswer}
use Rattle.chargectl.specs.declared.near_rulings.NearAnswer.TheVariants as nears
use Rattle.chargectl.specs.DryRuns.{ShowsDry}
use Rattle.chargectl.specs.Far.{is_far_asked}
use Rattle.chargectl.specs.ImportWorks.{entry_number, told_of}
use Rattle.chargectl.specs.NearRulings.{near_answer_of}
use Rattle.chargectl.specs.Requests.{Answering, CommandsBy, IsServiceFault, WritesEarly, WritesLines}
use Rattle.chargectl.specs.StreamedLists.{WritesSomeOf, list_answer, list_end, list_of}
use Rattle.chargectl.specs.Serving.{AllCame, AnswersSome, IsToldOf, service_end}
use Rattle.chargectl.specs.WithheldWorks.{IsNamedOf, TellsDump, WithholdsNothing}
use Rattle.chargectl.specs.declared.withheld_works.WorksAnswered.{WorksAnswered}

-- a command: its words, its input, its output and standard error before and after it, its status, and
-- the place of the books after it; and what the files that it may read held
pub record Commanded (S O E : Type 0) : Type 0 where
  pub words : List (String Global)
  pub files : Files
  pub had : Option (List ℕ)
  pub held : O
  pub holds : O
  pub quiet : E
  pub said : E
  pub status : Status
  pub after : S

-- the place after all of them
abbrev pub place_after : {S O E : Type 0} → S → List (Commanded S O E) → S
place_after before [] = before
place_after before (command ∷ later) = place_after command.after later

-- each kept its contract where the one before it left the books
abbrev pub AreCommanded : {S O E : Type 0} → (S → Shelf) → (S → ℕ → Type 0) → (O → Option (List ℕ))
    → Answering O → (List (List ℕ) → E → E → Type 0) → S → List (Commanded S O E) → Type 0
AreCommanded shelf waits contents may_answer Says before [] = Unit {0}
AreCommanded shelf waits contents may_answer Says before (command ∷ later) =
    CommandsBy command.files shelf waits before command.after command.words command.had contents
    may_answer command.held command.holds Says command.quiet command.said command.status
    × AreCommanded shelf waits contents may_answer Says command.after later

-- After a history this was asked and told, with a reader of these bytes, and it made these events, the
-- newest first. A refusal made none, and neither did a lack of memory: a fault of the store alone leaves
-- it open whether the events of the answer were made. What only reads made none, whatever it told. Unless
-- a lack of memory or the store hindered it, all of this is what the definitions say of the history,
-- looked at as a whole, but for what an import said of itself.
pub record Follows (naming : Naming) (history : List Event) (asked : Asked) (had : Option (List ℕ))
    (told : Result Answer LedgerFault) (made : List Event) : Type 0 where
  pub dump : Dump
  pub input : Input
  pub begun : input.old.left ≡ had
  pub given : Gives asked dump (response_by told) input
  pub left : Bool
  pub work : Asks naming asked dump (response_by told) false (book_of history) made left
  pub unmade : (fault : LedgerFault) → told ≡ Err fault → fault ≢ Store → made ≡ []
  pub reads : may_change asked ≡ false → made ≡ []
  pub is : is_hindered (response_by told) ≡ false
      → asked_outcome naming asked dump (book_of history)
      ≡ record { told = response_by told; events = but_for_entries asked made }

-- so it is of the answer of a visit and the events that it made; where the place refused the books,
-- for such a reason, none were made
abbrev pub OpenedSo : {A : Type 0} → (RepositoryFault → Type 0) → (A → List Event → Type 0)
    → Result A RepositoryFault → List Event → Type 0
OpenedSo Refuses So (Ok told) made = So told made
OpenedSo {A} Refuses So (Err fault) made = Refuses fault
    × WhereUnopened ((told : A) × So told made) (made ≡ []) fault

-- what the words ask of the books was asked, and so it was told
pub record AskedOf (files : Files) (naming : Naming) (history : List Event)
    (Refuses : RepositoryFault → Type 0) (request : BookRequest) (answered : Answered)
    (made : List Event) : Type 0 where
  pub asked : Asked
  pub words : IsAskedBy files request asked
  pub had : Option (List ℕ)
  pub dump : HasDump files request had
  pub told : Result (Result Answer LedgerFault) RepositoryFault
  pub follows : OpenedSo Refuses (Follows naming history asked had) told made
  pub says : answered.answer ≡ answer_of told

-- or nothing was asked
abbrev pub AskedBy : Files → Naming → List Event → (RepositoryFault → Type 0) → BookRequest
    → Result Answered CommandFault → List Event → Type 0
AskedBy files naming history Refuses request (Ok answered) made =
    AskedOf files naming history Refuses request answered made
AskedBy files naming history Refuses request (Err why) made =
    AsksNothing files request Refuses why × (made ≡ [])

-- and that was written
pub record AsksOfHistory (files : Files) (naming : Naming) (history : List Event)
    (Refuses : RepositoryFault → Type 0) (request : BookRequest) (held holds : Option (List ℕ))
    (Failed : Type 0) (ended : Ended) (made : List Event) : Type 0 where
  pub came : Result Answered CommandFault
  pub asked : AskedBy files naming history Refuses request came made
  pub tells : Tells came held holds Failed ended

-- What the words ask was tried on the books of a history, and so it was told and noticed: unless a lack of
-- memory or the store hindered it, that is what the definitions say of the history.
pub record TriedOn (files : Files) (naming : Naming) (history : List Event)
    (Refuses : RepositoryFault → Type 0) (request : BookRequest)
    (answered : Answered) : Type 0 where
  pub asked : Asked
  pub words : IsAskedBy files request asked
  pub told : Result DatedAnswer RepositoryFault
  pub follows : IfOk told (λ dated. is_hindered (response_by dated.answer) ≡ false
      → ShowsDry naming files.today asked (book_of history) (response_by dated.answer) dated.notice)
  pub refused : IfErr told Refuses
  pub says : answered.answer ≡ answer_of (answer_told told)
  pub notice : answered.notice ≡ notice_of told

-- or nothing was tried
abbrev pub TriedBy : Files → Naming → List Event → (RepositoryFault → Type 0) → BookRequest
    → Result Answered CommandFault → Type 0
TriedBy files naming history Refuses request (Ok answered) =
    TriedOn files naming history Refuses request answered
TriedBy files naming history Refuses request (Err why) = AsksNothing files request Refuses why

-- that was written, and no event was made
pub record TriesOfHistory (files : Files) (naming : Naming) (history : List Event)
    (Refuses : RepositoryFault → Type 0) (ruling : Ruling) (held holds : Option (List ℕ))
    (Failed : Type 0) (ended : Ended) (made : List Event) : Type 0 where
  pub came : Result Answered CommandFault
  pub tried : TriedBy files naming history Refuses (book.Rule ruling) came
  pub tells : Tells came held holds Failed ended
  pub none : made ≡ []

-- After a history a ruling was asked for whose day had to be near, and so it was told, as any ruling: its
-- day is not far from the history, unless a lack of memory or the store hindered it. Or it is far, and
-- nothing was made.
abbrev pub NearFollows : Naming → Option ℤ → List Event → Asked → NearAnswer → List Event → Type 0
NearFollows naming today history asked (nears.Told told) made =
    Follows naming history asked (Some []) told made
    × (is_hindered (response_by told) ≡ false → is_far_asked today asked (book_of history) ≡ false)
NearFollows naming today history asked nears.Far made =
    (made ≡ []) × (is_far_asked today asked (book_of history) ≡ true)

-- what the words ask was asked for so
pub record NearOn (files : Files) (naming : Naming) (history : List Event)
    (Refuses : RepositoryFault → Type 0) (request : BookRequest) (answered : Answered)
    (made : List Event) : Type 0 where
  pub asked : Asked
  pub words : IsAskedBy files request asked
  pub told : Result NearAnswer RepositoryFault
  pub follows : OpenedSo Refuses (NearFollows naming files.today history asked) told made
  pub says : answered.answer ≡ near_answer_of told

-- or nothing was
abbrev pub NearBy : Files → Naming → List Event → (RepositoryFault → Type 0) → BookRequest
    → Result Answered CommandFault → List Event → Type 0
NearBy files naming history Refuses request (Ok answered) made =
    NearOn files naming history Refuses request answered made
NearBy files naming history Refuses request (Err why) made =
    AsksNothing files request Refuses why × (made ≡ [])

-- and that was written
pub record NearOfHistory (files : Files) (naming : Naming) (history : List Event)
    (Refuses : RepositoryFault → Type 0) (ruling : Ruling) (held holds : Option (List ℕ))
    (Failed : Type 0) (ended : Ended) (made : List Event) : Type 0 where
  pub came : Result Answered CommandFault
  pub near : NearBy files naming history Refuses (book.Rule ruling) came made
  pub tells : Tells came held holds Failed ended

-- After a history the records of these names were chosen, one after the other, which made these events:
-- those of the choices that were answered, and of one that a fault of the store hindered maybe its own.
-- Unless a lack of memory or the store hindered one, that is what the definitions say of the history,
-- looked at as a whole.
pub record ChoicesMade (withheld : Bool) (naming : Naming) (history : List Event)
    (names : List (List ℕ)) (chosen : Chosen) (made : List Event) : Type 0 where
  pub said : Option Note
  pub left : Bool
  pub work : ChoosesEach said withheld naming names chosen.answers.items chosen.refusal false
      (book_of history) made left
  pub is : are_hindered chosen.refusal ≡ false
      → choices_outcome said withheld naming names (book_of history) ≡ record {
        answers = chosen.answers.items;
        refusal = chosen.refusal;
        events = made;
      }

-- without memory for the answers none was chosen
abbrev pub ChoicesFollow : Bool → Naming → List Event → List (List ℕ) → Result Chosen AllocError
    → List Event → Type 0
ChoicesFollow withheld naming history names (Ok chosen) made =
    ChoicesMade withheld naming history names chosen made
ChoicesFollow withheld naming history names (Err none) made = made ≡ []

-- the names of a list, in a file that had these bytes, were chosen, and so it was told
pub record ListOf (withheld : Bool) (had : Option (List ℕ)) (naming : Naming) (history : List Event)
    (Refuses : RepositoryFault → Type 0) (answered : ListAnswered)
    (made : List Event) : Type 0 where
  pub names : List (List ℕ)
  pub lines : List ℕ
  pub listed : AreListed names lines
  pub all : AreAllOf (front_of had) names
  pub placed : AreLinesOf (front_of had) lines
  pub numbered : answered.lines.items ≡ lines
  pub told : Result (Result Chosen AllocError) RepositoryFault
  pub follows : OpenedSo Refuses (ChoicesFollow withheld naming history names) told made
  pub says : answered.chosen ≡ chosen_of told

-- or none were
abbrev pub ListBy : Bool → Option (List ℕ) → Naming → List Event → (RepositoryFault → Type 0)
    → Result ListAnswered CommandFault → List Event → Type 0
ListBy withheld had naming history Refuses (Ok answered) made =
    ListOf withheld had naming history Refuses answered made
ListBy withheld had naming history Refuses (Err why) made = ChoosesNothing had Refuses why ×
    (made ≡ [])

-- and that was written
pub record ListOfHistory (withheld : Bool) (had : Option (List ℕ)) (naming : Naming)
    (history : List Event) (Refuses : RepositoryFault → Type 0) (held holds : Option (List ℕ))
    (Failed : Type 0) (ended : Ended) (made : List Event) : Type 0 where
  pub came : Result ListAnswered CommandFault
  pub listed : ListBy withheld had naming history Refuses came made
  pub tells : TellsList came held holds Failed ended

-- The names of a list, in a file that had these bytes, were chosen on a copy of the books of a history, and so
-- it was told: as if they had been chosen.
pub record ListTriedOf (withheld : Bool) (had : Option (List ℕ)) (naming : Naming)
    (history : List Event) (Refuses : RepositoryFault
    → Type 0) (answered : ListAnswered) : Type 0 where
  pub names : List (List ℕ)
  pub lines : List ℕ
  pub listed : AreListed names lines
  pub all : AreAllOf (front_of had) names
  pub placed : AreLinesOf (front_of had) lines
  pub numbered : answered.lines.items ≡ lines
  pub told : Result (Result Chosen AllocError) RepositoryFault
  pub follows : IfOk told (λ chosen. (events : List Event)
      × ChoicesFollow withheld naming history names chosen events)
  pub refused : IfErr told Refuses
  pub says : answered.chosen ≡ chosen_of told

-- or none were
abbrev pub ListTriedBy : Bool → Option (List ℕ) → Naming → List Event → (RepositoryFault → Type 0)
    → Result ListAnswered CommandFault → Type 0
ListTriedBy withheld had naming history Refuses (Ok answered) =
    ListTriedOf withheld had naming history Refuses answered
ListTriedBy withheld had naming history Refuses (Err why) = ChoosesNothing had Refuses why

-- that was written, and no event was made
pub record ListTriedOfHistory (withheld : Bool) (had : Option (List ℕ)) (naming : Naming)
    (history : List Event) (Refuses : RepositoryFault → Type 0) (held holds : Option (List ℕ))
    (Failed : Type 0) (ended : Ended) (made : List Event) : Type 0 where
  pub came : Result ListAnswered CommandFault
  pub tried : ListTriedBy withheld had naming history Refuses came
  pub tells : TellsList came held holds Failed ended
  pub none : made ≡ []

-- After a history the works of the records of these names were withheld, one change of the books after the
-- other, which made these events: each answer is the one that the definitions give for the history with
-- the events before it.
pub record WorksMade (naming : Naming) (history : List Event) (names : List (List ℕ))
    (told : WorksTold) (made : List Event) : Type 0 where
  pub said : Option Note
  pub left : Bool
  pub work : WithholdsSo said naming names told.counts told.refusal false
      (book_of history) made left

-- so were those of a dump, in a file that had these bytes
pub record WorksOf (layout : Layout) (had : Option (List ℕ)) (naming : Naming)
    (history : List Event)
    (Refuses : RepositoryFault → Type 0) (answered : WorksAnswered)
    (made : List Event) : Type 0 where
  pub named : DumpNames
  pub read : IsNamedOf layout had named
  pub follows : OpenedSo Refuses (WorksMade naming history named.names.items) answered.told made
  pub stop : answered.stop ≡ named.stop

-- or none were
abbrev pub DumpBy : Layout → Option (List ℕ) → Naming → List Event → (RepositoryFault → Type 0)
    → Result WorksAnswered CommandFault → List Event → Type 0
DumpBy layout had naming history Refuses (Ok answered) made =
    WorksOf layout had naming history Refuses answered made
DumpBy layout had naming history Refuses (Err why) made = WithholdsNothing Refuses why × (made ≡ [])

-- and that was written
pub record DumpOfHistory (layout : Layout) (had : Option (List ℕ)) (naming : Naming)
    (history : List Event) (Refuses : RepositoryFault → Type 0) (held holds : Option (List ℕ))
    (Failed : Type 0) (ended : Ended) (made : List Event) : Type 0 where
  pub came : Result WorksAnswered CommandFault
  pub withheld : DumpBy layout had naming history Refuses came made
  pub tells : TellsDump came held holds Failed ended

-- After a history the works were withheld of the records that came by an entry of its journal, or it was
-- refused to look these up: that made these events.
pub record EntryWorksMade (naming : Naming) (history : List Event) (entry : ℕ)
    (told : Result WorksTold LedgerFault) (made : List Event) : Type 0 where
  pub said : Option Note
  pub left : Bool
  pub work : WithholdsImport said naming entry told false (book_of history) made left

-- and so it was told
pub record WorksOfEntry (entry : ℕ) (naming : Naming) (history : List Event)
    (Refuses : RepositoryFault → Type 0) (answered : WorksAnswered)
    (made : List Event) : Type 0 where
  pub told : Result (Result WorksTold LedgerFault) RepositoryFault
  pub follows : OpenedSo Refuses (EntryWorksMade naming history entry) told made
  pub says : answered.told ≡ told_of told
  pub stop : answered.stop ≡ End

-- or none were, as the place refused the books,
abbrev pub EntryWorksBy : ℕ → Naming → List Event → (RepositoryFault → Type 0)
    → Result WorksAnswered CommandFault → List Event → Type 0
EntryWorksBy entry naming history Refuses (Ok answered) made =
    WorksOfEntry entry naming history Refuses answered made
EntryWorksBy entry naming history Refuses (Err why) made = IsShelfFault Refuses why × (made ≡ [])

-- or the number of the entry is none
abbrev pub EntryBy : Option ℕ → Naming → List Event → (RepositoryFault → Type 0)
    → Result WorksAnswered CommandFault → List Event → Type 0
EntryBy (Some entry) naming history Refuses came made =
    EntryWorksBy entry naming history Refuses came made
EntryBy None naming history Refuses came made = (came ≡ Err fault.Argument) × (made ≡ [])

-- and that was written
pub record EntryOfHistory (number : Option ℕ) (naming : Naming) (history : List Event)
    (Refuses : RepositoryFault → Type 0) (held holds : Option (List ℕ)) (Failed : Type 0)
    (ended : Ended) (made : List Event) : Type 0 where
  pub came : Result WorksAnswered CommandFault
  pub withheld : EntryBy number naming history Refuses came made
  pub tells : TellsDump came held holds Failed ended

-- One client was replied to, and these events were made; or the place refused the books, for any reason.
pub record AnswersOrNot (naming : Naming) (what : Served) (was : Bool) (before : Book)
    (events : List Event) (is : Bool) : Type 0 where
  pub came : Result Served RepositoryFault
  pub made : OpenedSo (λ why. Unit {0}) (λ so made. AnswersSome naming None so was before made is)
      came events
  pub told : IsToldOf came what

-- what one connection does to a book, by what became of it
abbrev pub ServesAny : Naming → Served → Transition
ServesAny naming served.Closed = NoEvent
ServesAny naming served.ReadFault = NoEvent
ServesAny naming what = AnswersOrNot naming what

-- connections in turn, the newest first; the books are opened anew for each
abbrev pub ServesEach : Naming → List Served → Transition
ServesEach naming [] = NoEvent
ServesEach naming (what ∷ before) =
    Then (ServesEach naming before) (OpenedAnew (ServesAny naming what))

-- Connections made these events of the books of a history: those of which lines were written, as many as
-- were due, unless the service ended early and said why.
pub record ServesHistory (naming : Naming) (history : List Event)
    (Refuses : RepositoryFault → Type 0) (requests : ℕ) (held holds : Option (List ℕ))
    (Failed : Type 0)
    (ended : Ended) (made : List Event) : Type 0 where
  pub told : List Served
  pub is : Bool
  pub made_so : ServesEach naming told false (book_after history) made is
  pub served : Result Bool CommandFault
  pub all : IfOk served (λ failed. AllCame requests told × WritesLines told held holds failed
      × (failed ≡ true → Failed))
  pub early : OnErr served (WritesEarly told held holds)
  pub cause : IfErr served (IsServiceFault Refuses)
  pub ends : ended.came ≡ service_end served

-- or the place refused the books before
abbrev pub ServesHistoryBy : Naming → List Event → (RepositoryFault → Type 0) → ℕ → Option (List ℕ)
    → Option (List ℕ) → Type 0 → Result Ended CommandFault → List Event → Type 0
ServesHistoryBy naming history Refuses requests held holds Failed (Ok ended) made =
    ServesHistory naming history Refuses requests held holds Failed ended made
ServesHistoryBy naming history Refuses requests held holds Failed (Err why) made =
    IsShelfFault Refuses why × (holds ≡ held) × (made ≡ [])

-- and that was told
pub record ServesOfHistory (naming : Naming) (history : List Event)
    (Refuses : RepositoryFault → Type 0) (requests : ℕ) (held holds : Option (List ℕ))
    (Failed : Type 0)
    (ended : Ended) (made : List Event) : Type 0 where
  pub came : Result Ended CommandFault
  pub serves : ServesHistoryBy naming history Refuses requests held holds Failed came made
  pub ends : ended ≡ settled_as came

-- Of sound books of a history an audit has the counts of the history. Of those that it calls unsound no
-- more is said; others were refused.
abbrev pub AuditsOf : List Event → (RepositoryFault → Type 0) → Result Audited RepositoryFault
    → Type 0
AuditsOf history Refuses (Ok (Sound counts)) = AreCountsOf (book_of history) counts
AuditsOf history Refuses (Ok (Unsound finding)) = ⊤
AuditsOf history Refuses (Err fault) = Refuses fault

-- so it was told, and no event was made
pub record AuditsHistory (history : List Event) (Refuses : RepositoryFault → Type 0)
    (held holds : Option (List ℕ)) (Failed : Type 0) (ended : Ended)
    (made : List Event) : Type 0 where
  pub audited : Result Audited RepositoryFault
  pub says : AuditsOf history Refuses audited
  pub tells : EndsAudit audited held holds Failed ended.came
  pub none : made ≡ []

-- or the place refused the books before
abbrev pub AuditsHistoryBy : List Event → (RepositoryFault → Type 0) → Option (List ℕ)
    → Option (List ℕ) → Type 0 → Result Ended CommandFault → List Event → Type 0
AuditsHistoryBy history Refuses held holds Failed (Ok ended) made =
    AuditsHistory history Refuses held holds Failed ended made
AuditsHistoryBy history Refuses held holds Failed (Err why) made =
    IsShelfFault Refuses why × (holds ≡ held) × (made ≡ [])

-- and that was told
pub record AuditOfHistory (history : List Event) (Refuses : RepositoryFault → Type 0)
    (held holds : Option (List ℕ)) (Failed : Type 0) (ended : Ended)
    (made : List Event) : Type 0 where
  pub came : Result Ended CommandFault
  pub audits : AuditsHistoryBy history Refuses held holds Failed came made
  pub ends : ended ≡ settled_as came

-- This text was written whole, or, before a fault, a prefix of it that is not the whole; or it was
-- refused. Where the place refused the books none was; where it was not seen that their closed files
-- hold them, it may be the list of other books.
abbrev pub IsListed : StreamedList → Result (List ℕ) LedgerFault → (RepositoryFault → Type 0)
    → Option (List ℕ) → Option (List ℕ) → Result (Result (Unit {0}) ReportFault) RepositoryFault
    → Type 0
IsListed list answer Refuses held holds (Ok written) =
    WritesUntilOrRefuses answer held holds written
IsListed list answer Refuses held holds (Err fault) = Refuses fault
    × WhereUnopened ((written : _) × WritesSomeOf list held holds written) (holds ≡ held) fault

-- A list of the books of a history was written while they were open.
pub record ListsHistory (list : StreamedList) (naming : Naming) (history : List Event)
    (Refuses : RepositoryFault → Type 0) (held holds : Option (List ℕ)) (ended : Ended)
    : Type 0 where
  pub told : Result (Result (Unit {0}) ReportFault) RepositoryFault
  pub flushed : Result (Unit {0}) CommandFault
  pub listed : IsListed list (list_answer list naming (book_of history)) Refuses held holds told
  pub ends : ended.came ≡ first_fault (list_end told) flushed
  pub output : OnOk (list_end told) (IfErr flushed IsFileFault)

-- or the place refused them before
abbrev pub ListsHistoryBy : StreamedList → Naming → List Event → (RepositoryFault → Type 0)
    → Option (List ℕ) → Option (List ℕ) → Result Ended CommandFault → Type 0
ListsHistoryBy list naming history Refuses held holds (Ok ended) =
    ListsHistory list naming history Refuses held holds ended
ListsHistoryBy list naming history Refuses held holds (Err why) =
    IsShelfFault Refuses why × (holds ≡ held)

-- and no event was made
pub record ListsOfHistory (list : StreamedList) (naming : Naming) (history : List Event)
    (Refuses : RepositoryFault → Type 0) (held holds : Option (List ℕ)) (ended : Ended)
    (made : List Event) : Type 0 where
  pub came : Result Ended CommandFault
  pub lists : ListsHistoryBy list naming history Refuses held holds came
  pub ends : ended ≡ settled_as came
  pub none : made ≡ []

-- A list that words ask for; or a word is not what it has to be.
abbrev pub ListsAskedOfHistory : Option StreamedList → Naming → List Event
    → (RepositoryFault → Type 0) → Option (List ℕ) → Option (List ℕ) → Ended → List Event → Type 0
ListsAskedOfHistory (Some list) naming history Refuses held holds ended made =
    ListsOfHistory list naming history Refuses held holds ended made
ListsAskedOfHistory None naming history Refuses held holds ended made =
    (ended ≡ settled_as (Err fault.Argument)) × (holds ≡ held) × (made ≡ [])

-- what each command on books does to the history that they hold, where the place refuses them for
-- such reasons
abbrev pub DoesToHistory : Files → Naming → List Event → (RepositoryFault → Type 0) → BookRequest
    → Option (List ℕ) → Option (List ℕ) → Type 0 → Ended → List Event → Type 0
DoesToHistory files naming history Refuses book.Init held holds Failed ended made = made ≡ []
DoesToHistory files naming history Refuses book.Upgrade held holds Failed ended made = made ≡ []
DoesToHistory files naming history Refuses (book.Audit quiet) held holds Failed ended made =
    AuditOfHistory history Refuses held holds Failed ended made
DoesToHistory files naming history Refuses (book.BackUp copy quiet) held holds Failed ended made =
    made ≡ []
DoesToHistory files naming history Refuses (book.Serve port requests) held holds Failed ended made =
    ServesOfHistory naming history Refuses requests held holds Failed ended made
DoesToHistory files naming history Refuses (book.List asked) held holds Failed ended made =
    ListsAskedOfHistory (list_of asked) naming history Refuses held holds ended made
DoesToHistory files naming history Refuses (book.ChooseListed withheld file) held holds Failed
    ended made =
    ListOfHistory withheld (files.holds file.now) naming history Refuses held holds Failed ended
    made
DoesToHistory files naming history Refuses (book.TryListed withheld file) held holds Failed ended
    made =
    ListTriedOfHistory withheld (files.holds file.now) naming history Refuses held holds Failed
    ended
    made
DoesToHistory files naming history Refuses (book.WithholdDump file layout) held holds Failed ended
    made =
    DumpOfHistory layout (files.holds file.now) naming history Refuses held holds Failed ended made
DoesToHistory files naming history Refuses (book.WithholdImport number) held holds Failed ended
    made =
    EntryOfHistory (entry_number number.now) naming history Refuses held holds Failed ended made
DoesToHistory files naming history Refuses (book.DryRun ruling) held holds Failed ended made =
    TriesOfHistory files naming history Refuses ruling held holds Failed ended made
DoesToHistory files naming history Refuses (book.RuleNear ruling) held holds Failed ended made =
    NearOfHistory files naming history Refuses ruling held holds Failed ended made
DoesToHistory files naming history Refuses asked held holds Failed ended made =
    AsksOfHistory files naming history Refuses asked held holds Failed ended made

-- it does so to the books that its words name, and nothing to others
pub record OnBooks (files : Files) (naming : Naming) (name book : List ℕ) (history : List Event)
    (Refuses : RepositoryFault → Type 0) (request : BookRequest) (held holds : Option (List ℕ))
    (Failed : Type 0) (status : Status) (made : List Event) : Type 0 where
  pub ended : Ended
  pub ends : status ≡ status_by ended
  pub here : book ≡ name
      → DoesToHistory files naming history Refuses request held holds Failed ended made
  pub elsewhere : book ≢ name → made ≡ []

-- That was done; or there was no memory for its note, and nothing was.
abbrev pub OnBooksIfNoted : Files → Naming → List ℕ → List ℕ → List Event
    → (RepositoryFault → Type 0) → BookRequest → Option (List ℕ) → Option (List ℕ) → Type 0 → Status
    → List Event → Type 0
OnBooksIfNoted files naming name book history Refuses asked held holds Failed status made =
    OnBooks files naming name book history Refuses asked held holds Failed status made ⊎ (made ≡ [])

-- so with all requests: only those on books do anything to them
abbrev pub RunsOn : Files → Naming → List ℕ → List Event → (List ℕ → RepositoryFault → Type 0)
    → Result Request ArgumentFault → Option (List ℕ) → Option (List ℕ) → Type 0 → Status
    → List Event → Type 0
RunsOn files naming name history Refuses (Ok (request.OfBooks book wait note asked)) held holds
    Failed
    status made =
    OnBooksIfNoted files naming name book.now history (Refuses book.now) asked held holds Failed
    status made
RunsOn files naming name history Refuses asked held holds Failed status made = made ≡ []

-- What a command did to the books of a name, which held this history, by its words, at a place that
-- refuses books for such reasons; calls made all of what they hold now.
pub record DoneAfter {S O E : Type 0} (contents : O → Option (List ℕ)) (may_answer : Answering O)
    (naming : Naming) (name : List ℕ) (history : List Event)
    (Refuses : List ℕ → RepositoryFault → Type 0) (command : Commanded S O E) (made : List Event)
    : Type 0 where
  pub asked : Result Request ArgumentFault
  pub read : AreReadAs program_name most_rate (as_texts command.words) asked
  pub runs : RunsOn command.files naming name history Refuses asked (contents command.held)
      (contents command.holds) (∥ HasFailed may_answer command.holds ∥₁) command.status made
  pub answered : IsMadeByCalls naming (made ++ history)

-- so it is with each, after the history that goes on with what those before it made, at the place
-- that they left
abbrev pub AreDoneAfter : {S O E : Type 0} → (S → Shelf) → (O → Option (List ℕ)) → Answering O → S
    → Naming → List ℕ → List Event → List (Commanded S O E) → List Event → Type 0
AreDoneAfter shelf contents may_answer before naming name history [] end = end ≡ history
AreDoneAfter shelf contents may_answer before naming name history (command ∷ later) end =
    (made : List Event)
    × DoneAfter contents may_answer naming name history (shelf before).refuses command made
    × AreDoneAfter shelf contents may_answer command.after naming name (made ++ history) later end

-- and the books hold the history with all of it
pub record LeaveHistory {S O E : Type 0} (shelf : S → Shelf) (contents : O → Option (List ℕ))
    (may_answer : Answering O) (before : S) (naming : Naming) (name : List ℕ) (start : List Event)
    (commands : List (Commanded S O E)) (after : S) : Type 0 where
  pub end : List Event
  pub done : AreDoneAfter shelf contents may_answer before naming name start commands end
  pub held : (shelf after).holds name end

-- The headline: after any commands, the books of a name that held a history which calls made hold it
-- with what the commands made of it; and each told what the definitions give for the whole history
-- before it, or why the place that it found refused the books.
abbrev pub CommandsFollowHistory : {S O E : Type 0} → (S → Shelf) → (S → ℕ → Type 0)
    → (O → Option (List ℕ)) → Answering O → (List (List ℕ) → E → E → Type 0) → Type 0
CommandsFollowHistory {S} {O} {E} shelf waits contents may_answer Says =
    (name : List ℕ) (start : List Event) (before : S) (commands : List (Commanded S O E))
    → IsMadeByCalls (shelf before).naming start → (shelf before).holds name start
    → AreCommanded shelf waits contents may_answer Says before commands
    → LeaveHistory shelf contents may_answer before (shelf before).naming name start commands
    (place_after before commands)
