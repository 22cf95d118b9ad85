-- Commands, one after the other, and the history that they make.
use Rattle.std.proofs.Common.{◌≡◌, ◌≢◌, ◌∙◌, ◌⊎◌, Bool, true, false, true≢false, ℕ, List, [], ◌∷◌}
use Rattle.std.proofs.Common.{◌++◌, Option, Some, None, Result, Ok, Err, ap, inl, inr, refl, subst}
use Rattle.std.proofs.Common.{sym, IfErr, IfOk, ℤ}
use Rattle.std.specs.declared.alloc.AllocError.{AllocError}
use Rattle.book_model.proofs.Std.{bytes_decides}
use Rattle.book_model.specs.Words.{same_bytes, Book, Event, IsMadeByCalls, Naming, Note, Outcome}
use Rattle.book_model.specs.Words.{book_after, book_of}
use Rattle.book_model.specs.declared.fault.LedgerFault.TheVariants.{Memory, Store, Reopen}
use Rattle.book_core.specs.Words.{Calls, listed, MakesAnswered, Transition, NoEvent}
use Rattle.book_core.proofs.FollowLemmas.{history_goes_on, none_answered}
use Rattle.book_model.proofs.Lemmas.{books_follow_history}
use Rattle.smf_frames.specs.declared.dump.Layout.{Layout}
use Rattle.book_audit.specs.Copies.{IsAudited}
use Rattle.book_audit.specs.declared.audited.Audited.{Audited}
use Rattle.book_audit.specs.declared.audited.Audited.TheVariants.{Sound, Unsound}
use Rattle.book_lists.specs.Streamed.{WritesAnswerUntil, WritesUntilOrRefuses}
use Rattle.office.specs.declared.choosing.Chosen.{Chosen}
use Rattle.office.specs.declared.request.Asked.TheVariants.{Import, ImportBytes, Report, WhatIf}
use Rattle.office.specs.ImportWorks.{WithholdsImport}
use Rattle.office.specs.Outcomes.{is_hindered}
use Rattle.office.specs.Requests.{Asks, Dump, Response}
use Rattle.named_books.specs.Shelves.{IsTried, IsUntouched}
use Rattle.office.proofs.ChoiceLemmas.{choices_done}
use Rattle.office.proofs.ImportWorkLemmas.{import_answered}
use Rattle.office.proofs.LawLemmas.{asks_done}
use Rattle.office.proofs.WithholdingLemmas.{so_answered}
use Rattle.office.specs.declared.withholding.WorksTold.{WorksTold}
use Rattle.command_line.specs.declared.request.BookRequest.{BookRequest}
use Rattle.command_line.specs.declared.request.Request.{Request}
use Rattle.command_line.specs.declared.request.Ruling.{Ruling}
use Rattle.command_line.specs.declared.fault.ArgumentFault.{ArgumentFault}
use Rattle.program_output.specs.declared.status.Status.{Status}
use Rattle.without_books.specs.declared.ended.Ended.{Ended}
use Rattle.without_books.specs.Faults.{settled_as, status_by}
use Rattle.without_books.specs.Inputs.{Files}
use Rattle.chargectl.specs.declared.choices.ListAnswered.{ListAnswered}
use Rattle.chargectl.specs.declared.dated_rulings.DatedAnswer.{DatedAnswer}
use Rattle.chargectl.specs.declared.answered.Answered.{Answered}
use Rattle.chargectl.specs.declared.near_rulings.NearAnswer.{NearAnswer}
use Rattle.chargectl.specs.declared.near_rulings.NearAnswer.TheVariants as nears
use Rattle.chargectl.specs.declared.streamed_lists.StreamedList.{StreamedList}
use Rattle.chargectl.specs.Choices.{ChoosesBy, ChoosesListed, ComesOfList, IsListFault, front_of}
use Rattle.chargectl.specs.Choices.{list_answered}
use Rattle.chargectl.specs.Commands.{AsksAndTells, AsksNothing, AsksOnceBy, ComesOf, IsFileFault}
use Rattle.chargectl.specs.Commands.{may_change, once_answered}
use Rattle.chargectl.specs.Audits.{AuditsBooks, BacksUp}
use Rattle.chargectl.specs.CommandLaws.{AreCommanded, AskedBy, AsksOfHistory, AuditsHistoryBy}
use Rattle.chargectl.specs.CommandLaws.{AuditsOf, Commanded, ChoicesFollow, CommandsFollowHistory}
use Rattle.chargectl.specs.CommandLaws.{DoesToHistory, Follows, IsListed, LeaveHistory, ListBy}
use Rattle.chargectl.specs.CommandLaws.{NearBy, NearFollows, NearOfHistory}
use Rattle.chargectl.specs.CommandLaws.{ListOfHistory, ListTriedBy, ListTriedOfHistory}
use Rattle.chargectl.specs.CommandLaws.{ListsHistoryBy, ListsAskedOfHistory}
use Rattle.chargectl.specs.CommandLaws.{ListsOfHistory, OpenedSo, RunsOn, ServesEach}
use Rattle.chargectl.specs.CommandLaws.{ServesHistoryBy, TriedBy, TriesOfHistory, place_after}
use Rattle.chargectl.specs.CommandLaws.{DumpBy, DumpOfHistory, EntryBy, EntryOfHistory}
use Rattle.chargectl.specs.CommandLaws.{EntryWorksBy, EntryWorksMade, OnBooksIfNoted, WorksMade}
use Rattle.chargectl.specs.DryRuns.{ComesOfDryRun, ShowsDry, TriesAndTells, TriesOnceBy}
use Rattle.chargectl.specs.Far.{is_far_asked}
use Rattle.chargectl.specs.ImportWorks.{ComesOfEntry, ComesOfWorks, WithholdsEntry, entry_number}
use Rattle.chargectl.specs.NearRulings.{AsksNear, ComesNear, RulesNear, near_answered}
use Rattle.chargectl.specs.Requests.{Answering, Does, DoesOrRefuses, IsServiceFault, ServesBy}
use Rattle.chargectl.specs.Requests.{SettlesBy, UnlessUnnoted, WaitsAndDoes, wait_for}
use Rattle.chargectl.specs.StreamedLists.{ListsAsked, ListsBy, WritesSomeOf, list_answer, list_of}
use Rattle.chargectl.specs.StreamedLists.{listing_answered}
use Rattle.chargectl.specs.Upgrades.{UpgradesBy}
use Rattle.chargectl.specs.WithheldWorks.{ComesOfDump, WithholdsDump, WorksBy}
use Rattle.chargectl.specs.declared.withheld_works.WorksAnswered.{WorksAnswered}
use Rattle.chargectl.proofs.CommandLemmas.{either_as, nothing_as, shelf_as}
use Rattle.chargectl.proofs.ServingLemmas.{each_answered, turn_done}
use Rattle.chargectl.proofs.Words.{HasFailed, LedgerFault, ReportFault, RepositoryFault, Unseen}
use Rattle.chargectl.proofs.Words.{Answer, Asked, response_by, ComesBy, Shelf, IsDoneTo, IsOpened}
use Rattle.chargectl.proofs.Words.{CommandFault}
use Rattle.command_line.specs.declared.request.BookRequest.TheVariants as asks
use Rattle.command_line.specs.declared.request.Request.TheVariants as request

by_test : {P : Type 0} (is : Bool) → (is ≡ true → P) → (P → is ≡ true) → P ⊎ (P → ⊥)
by_test true same back = inl (same refl)
by_test false same back = inr (λ p. true≢false (sym (back p)))

-- two names are one or are apart
one_or_apart : (one other : List ℕ) → (one ≡ other) ⊎ (one ≢ other)
one_or_apart one other =
    let decides = bytes_decides one other in
    by_test (same_bytes one other) decides.0 decides.1

-- what is so of one name and of any other is so
in_any_case : {P : Type 0} (one other : List ℕ) → (one ≡ other → P) → (one ≢ other → P) → P
in_any_case one other here elsewhere = elim (one_or_apart one other) [
  | inl same ↦ here same
  | inr apart ↦ elsewhere apart
]

-- The books of a name, which held a history that calls made, hold it with these events, of which this
-- is so.
record Step (naming : Naming) (history : List Event) (name : List ℕ) (old new : Shelf)
    (So : List Event → Type 0) : Type 0 where
  made : List Event
  so : So made
  answered : IsMadeByCalls naming (made ++ history)
  held : new.holds name (made ++ history)
  named : new.naming ≡ old.naming

-- a step, of which something else follows
step_as : {naming : Naming} {history : List Event} {name : List ℕ} {old new : Shelf}
    {One Other : List Event → Type 0} → ((made : List Event) → One made → Other made)
    → Step naming history name old new One → Step naming history name old new Other
step_as follow step = record {
  made = step.made;
  so = follow step.made step.so;
  answered = step.answered;
  held = step.held;
  named = step.named;
}

-- a step from where the same is known
step_from : {naming : Naming} {history : List Event} {name : List ℕ} {old between new : Shelf}
    {So : List Event → Type 0} → between.naming ≡ old.naming
    → Step naming history name between new So → Step naming history name old new So
step_from same step = record {
  made = step.made;
  so = step.so;
  answered = step.answered;
  held = step.held;
  named = step.named ∙ same;
}

-- what is so where a name is that of books, and that nothing is done to others
abbrev Where : List ℕ → List ℕ → (List Event → Type 0) → List Event → Type 0
Where book name So made = (book ≡ name → So made) × (book ≢ name → made ≡ [])

step_where : {naming : Naming} {history : List Event} {name book : List ℕ} {old new : Shelf}
    {One Other : List Event → Type 0} → ((made : List Event) → One made → Other made)
    → Step naming history name old new (Where book name One)
    → Step naming history name old new (Where book name Other)
step_where follow = step_as (λ made so. (λ same. follow made (so.0 same), so.1))

-- such work, on the books of a history
record Makes (Made : Transition) (history made : List Event) : Type 0 where
  is : Bool
  made_so : Made false (book_after history) made is

-- where a fault is in place of an answer nothing was made, unless the store failed
called_unmade : (outcome : Book → Outcome Response) (fault : LedgerFault) (book : Book)
    (events : List Event) (is : Bool)
    → Calls (λ (told : Response). told) outcome (Err fault) false book events is → fault ≢ Store
    → events ≡ []
called_unmade outcome Memory book events is called apart = called.makes
called_unmade outcome Store book events is called apart = absurd (apart refl)
called_unmade outcome Reopen book events is called apart = called.makes
called_unmade outcome fault book events is called apart = called.makes.1

asked_unmade : (naming : Naming) (asked : Asked) (dump : Dump) (fault : LedgerFault) (book : Book)
    (events : List Event) (is : Bool) → Asks naming asked dump (Err fault) false book events is
    → fault ≢ Store → events ≡ []
asked_unmade naming (Import layout said) dump fault book events is made apart = absurd made
asked_unmade naming (ImportBytes layout bytes said) dump fault book events is made apart =
    absurd made
asked_unmade naming other dump fault book events is made apart =
    called_unmade _ fault book events is made apart

-- what has no event makes none, whatever is told
called_reads : (outcome : Book → Outcome Response) (told : Result Response LedgerFault)
    (book : Book)
    (events : List Event) (is : Bool) → (outcome book).event ≡ None
    → Calls (λ (told : Response). told) outcome told false book events is → events ≡ []
called_reads outcome (Ok value) book events is none called = called.makes.1 ∙ ap listed none
called_reads outcome (Err Memory) book events is none called = called.makes
called_reads outcome (Err Store) book events is none called =
    elim called.makes [ inl made ↦ made | inr made ↦ made ∙ ap listed none ]
called_reads outcome (Err Reopen) book events is none called = called.makes
called_reads outcome (Err fault) book events is none called = called.makes.1

asked_reads : (naming : Naming) (asked : Asked) (dump : Dump) (told : Result Response LedgerFault)
    (book : Book) (events : List Event) (is : Bool)
    → Asks naming asked dump told false book events is
    → may_change asked ≡ false → events ≡ []
asked_reads naming (Report report) dump told book events is made read =
    called_reads _ told book events is refl made
asked_reads naming (WhatIf report tariff) dump told book events is made read =
    called_reads _ told book events is refl made
asked_reads naming other dump told book events is made read = absurd (true≢false read)

-- books of one name are those of another, or are not
module _ (naming : Naming) (history : List Event) (name : List ℕ) (old new : Shelf)
    (answered : IsMadeByCalls naming history) (held : old.holds name history) where
  work_on : (book : List ℕ) (Made : Transition) → MakesAnswered naming Made
      → IsDoneTo book Made old new
      → Step naming history name old new (Where book name (Makes Made history))
  work_on book Made makes done = elim (one_or_apart book name) [
    | inl same ↦
        let more = (subst (λ book. IsDoneTo book Made old new) same done).here history held in
        record {
          made = more.events;
          so = (λ _. record { is = more.is; made_so = more.made }, λ apart. absurd (apart same));
          answered = history_goes_on naming more.events history
              (makes (book_after history) false more.events more.is more.made) answered;
          held = more.now;
          named = done.naming;
        }
    | inr apart ↦
        let more = done.elsewhere name (λ same. apart (sym same)) history held in
        record {
          made = [];
          so = (λ same. absurd (apart same), λ _. refl);
          answered = answered;
          held = subst (λ (events : List Event). new.holds name (events ++ history)) more.made.none
              more.now;
          named = done.naming;
        }
  ]

  -- nothing was done to any books
  none_on : (book : List ℕ) → IsUntouched book old new
      → Step naming history name old new (λ made. made ≡ [])
  none_on book done =
      step_as (λ made so. in_any_case book name (λ same. (so.0 same).made_so.none) so.1)
      (work_on book NoEvent (none_answered naming) done)

  -- what the office answered once follows the history
  followed : (asked : Asked) (had : Option (List ℕ)) (told : Result Answer LedgerFault)
      (made : List Event) → Makes (AsksOnceBy naming asked had told) history made
      → Follows naming history asked had told made
  followed asked had told made it =
      let once = it.made_so in
      let work = subst
      (λ book. Asks naming asked once.dump (response_by told) false book made it.is)
      (books_follow_history history) once.made in
      record {
        dump = once.dump;
        input = once.input;
        begun = once.begun;
        given = once.given;
        left = it.is;
        work = work;
        unmade = λ fault same apart.
            asked_unmade naming asked once.dump fault (book_of history) made it.is
            (subst (λ told. Asks naming asked once.dump (response_by told) false
            (book_of history) made
            it.is) same work)
            apart;
        reads = λ read.
            asked_reads naming asked once.dump (response_by told) (book_of history) made it.is work
            read;
        is = asks_done naming asked once.dump (response_by told) (book_of history) made it.is work;
      }

  -- the office was asked once
  asked_on : (book : List ℕ) (asked : Asked) (had : Option (List ℕ))
      (told : Result Answer LedgerFault)
      → IsDoneTo book (AsksOnceBy naming asked had told) old new
      → Step naming history name old new (Where book name (Follows naming history asked had told))
  asked_on book asked had told done =
      step_where (followed asked had told)
      (work_on book (AsksOnceBy naming asked had told)
      (once_answered naming asked had (response_by told)) done)

  -- it was asked for a ruling whose day had to be near, or not
  near_on : (book : List ℕ) (today : Option ℤ) (asked : Asked) (near : NearAnswer)
      → IsDoneTo book (AsksNear naming today asked near) old new
      → Step naming history name old new (Where book name (NearFollows naming today history asked
      near))
  near_on book today asked (nears.Told told) done =
      step_where
      (λ made it. (
        followed asked (Some []) told made (record { is = it.is; made_so = it.made_so.once }),
        λ free. subst (λ book. is_far_asked today asked book ≡ false) (books_follow_history history)
            (it.made_so.near refl free),
      ))
      (work_on book (AsksNear naming today asked (nears.Told told))
      (near_answered naming today asked (nears.Told told)) done)
  near_on book today asked nears.Far done =
      step_where
      (λ made it. (
        it.made_so.none.none,
        subst (λ book. is_far_asked today asked book ≡ true) (books_follow_history history)
            it.made_so.far,
      ))
      (work_on book (AsksNear naming today asked nears.Far)
      (near_answered naming today asked nears.Far) done)

  -- a list was written
  listed_on : (answer : Naming → Book → Result (List ℕ) LedgerFault) (book : List ℕ)
      (held_bytes holds : Option (List ℕ)) (told : Result (Unit {0}) ReportFault)
      → IsDoneTo book (WritesAnswerUntil answer naming held_bytes holds told) old new
      → Step naming history name old new (λ made. (book ≡ name
      → WritesUntilOrRefuses (answer naming (book_of history)) held_bytes holds told) × (made ≡ []))
  listed_on answer book held_bytes holds told done =
      step_as (λ made so. (
        λ same. subst (λ book. WritesUntilOrRefuses (answer naming book) held_bytes holds told)
            (books_follow_history history) (so.0 same).made_so.written,
        in_any_case book name (λ same. (so.0 same).made_so.none) so.1,
      ))
      (work_on book (WritesAnswerUntil answer naming held_bytes holds told)
      (listing_answered answer naming held_bytes holds told) done)

  -- what chose records follows the history
  choices_followed : (said : Option Note) (withheld : Bool) (names : List (List ℕ))
      (told : Result Chosen AllocError) (made : List Event)
      → Makes (ChoosesBy said withheld naming names told) history made
      → ChoicesFollow withheld naming history names told made
  choices_followed said withheld names (Ok chosen) made it =
      let work = subst
      (λ book. ChoosesBy said withheld naming names (Ok chosen) false book made it.is)
      (books_follow_history history) it.made_so in
      record {
        said = said;
        left = it.is;
        work = work;
        is = choices_done said withheld naming names chosen.answers.items chosen.refusal
            (book_of history) made it.is work;
      }
  choices_followed said withheld names (Err none) made it = it.made_so.none

  -- records were chosen, one after the other
  chosen_on : (said : Option Note) (withheld : Bool) (book : List ℕ) (names : List (List ℕ))
      (told : Result Chosen AllocError)
      → IsDoneTo book (ChoosesBy said withheld naming names told) old new
      → Step naming history name old new
      (Where book name (ChoicesFollow withheld naming history names told))
  chosen_on said withheld book names told done =
      step_where (choices_followed said withheld names told)
      (work_on book (ChoosesBy said withheld naming names told)
      (list_answered said withheld naming names told) done)

  -- what withheld works follows the history
  works_followed : (said : Option Note) (names : List (List ℕ)) (told : WorksTold)
      (made : List Event) → Makes (WorksBy said naming names told) history made
      → WorksMade naming history names told made
  works_followed said names told made it = record {
    said = said;
    left = it.is;
    work = subst (λ book. WorksBy said naming names told false book made it.is)
        (books_follow_history history) it.made_so;
  }

  -- the works of records were withheld, one change after the other
  withheld_on : (said : Option Note) (book : List ℕ) (names : List (List ℕ)) (told : WorksTold)
      → IsDoneTo book (WorksBy said naming names told) old new
      → Step naming history name old new (Where book name (WorksMade naming history names told))
  withheld_on said book names told done =
      step_where (works_followed said names told)
      (work_on book (WorksBy said naming names told)
      (so_answered said naming names told.counts told.refusal) done)

  -- so were those of the records that came by an entry
  entry_withheld_on : (said : Option Note) (book : List ℕ) (entry : ℕ)
      (told : Result WorksTold LedgerFault)
      → IsDoneTo book (WithholdsImport said naming entry told) old new
      → Step naming history name old new (Where book name (EntryWorksMade naming history entry
      told))
  entry_withheld_on said book entry told done =
      step_where (λ made it. record {
        said = said;
        left = it.is;
        work = subst (λ book. WithholdsImport said naming entry told false book made it.is)
            (books_follow_history history) it.made_so;
      })
      (work_on book (WithholdsImport said naming entry told)
      (import_answered said naming entry told) done)

  -- or the place refused them, for such a reason
  opened_on : {A : Type 0} (book : List ℕ) (Refuses : RepositoryFault → Type 0)
      → ((fault : RepositoryFault) → old.refuses book fault → Refuses fault)
      → (work : A → Transition) (So : A → List Event → Type 0)
      → ((told : A) → IsDoneTo book (work told) old new
      → Step naming history name old new (Where book name (So told)))
      → (told : Result A RepositoryFault) → IsOpened work book old new told
      → Step naming history name old new (Where book name (OpenedSo Refuses So told))
  opened_on book Refuses follow work So so_of (Ok told) done = so_of told done
  opened_on book Refuses follow work So so_of (Err Unseen) done = elim done.1 [
    | inl seen ↦
        step_as (λ made so. (λ same. (follow Unseen done.0, inl (seen.0, so.0 same)), so.1))
        (so_of seen.0 seen.1)
    | inr none ↦
        step_as (λ made is. (λ _. (follow Unseen done.0, inr is), λ _. is)) (none_on book none)
  ]
  opened_on book Refuses follow work So so_of (Err fault) done =
      step_as (λ made is. (λ _. (follow fault done.0, is), λ _. is)) (none_on book done.1)

module _ (history : List Event) (name : List ℕ) (old new : Shelf)
    (answered : IsMadeByCalls old.naming history) (held : old.holds name history)
    (Refuses : List ℕ → RepositoryFault → Type 0)
    (follow : (book : List ℕ) (fault : RepositoryFault) → old.refuses book fault
    → Refuses book fault) where
  -- why nothing is asked
  nothing : (files : Files) (book : List ℕ) (request : BookRequest) (why : CommandFault)
      → AsksNothing files request (old.refuses book) why
      → AsksNothing files request (Refuses book) why
  nothing files book = nothing_as (old.refuses book) (Refuses book) (follow book) files

  -- a command that asks the office, or nothing
  comes_on : (files : Files) (book : List ℕ) (request : BookRequest)
      (came : Result Answered CommandFault)
      → ComesOf files request book old new came
      → Step old.naming history name old new
      (Where book name (AskedBy files old.naming history (Refuses book) request came))
  comes_on files book request (Ok told) comes =
      step_where (λ made follows. record {
        asked = comes.asked;
        words = comes.words;
        had = comes.had;
        dump = comes.dump;
        told = comes.came.told;
        follows = follows;
        says = comes.came.says;
      })
      (opened_on old.naming history name old new answered held book (Refuses book) (follow book)
      (AsksOnceBy old.naming comes.asked comes.had)
      (Follows old.naming history comes.asked comes.had)
      (asked_on old.naming history name old new answered held book comes.asked comes.had)
      comes.came.told comes.came.done)
  comes_on files book request (Err why) comes =
      step_as (λ made is. (λ _. (nothing files book request why comes.0, is), λ _. is))
      (none_on old.naming history name old new answered held book comes.1)

  asks_on : (files : Files) (book : List ℕ) (request : BookRequest) (has holds : Option (List ℕ))
      (Failed : Type 0) (ended : Ended) → AsksAndTells files request book old new has holds Failed
      ended
      → Step old.naming history name old new
      (Where book name
      (AsksOfHistory files old.naming history (Refuses book) request has holds Failed ended))
  asks_on files book request has holds Failed ended it =
      step_where (λ made so. record { came = it.answered; asked = so; tells = it.tells })
      (comes_on files book request it.answered it.comes)

  -- a ruling whose day had to be near
  near_comes_on : (files : Files) (book : List ℕ) (request : BookRequest)
      (came : Result Answered CommandFault) → ComesNear files request book old new came
      → Step old.naming history name old new
      (Where book name (NearBy files old.naming history (Refuses book) request came))
  near_comes_on files book request (Ok told) comes =
      step_where (λ made follows. record {
        asked = comes.asked;
        words = comes.words;
        told = comes.came.told;
        follows = follows;
        says = comes.came.says;
      })
      (opened_on old.naming history name old new answered held book (Refuses book) (follow book)
      (AsksNear old.naming files.today comes.asked)
      (NearFollows old.naming files.today history comes.asked)
      (near_on old.naming history name old new answered held book files.today comes.asked)
      comes.came.told comes.came.done)
  near_comes_on files book request (Err why) comes =
      step_as (λ made is. (λ _. (nothing files book request why comes.0, is), λ _. is))
      (none_on old.naming history name old new answered held book comes.1)

  near_rules_on : (files : Files) (book : List ℕ) (ruling : Ruling) (has holds : Option (List ℕ))
      (Failed : Type 0) (ended : Ended) → RulesNear files ruling book old new has holds Failed ended
      → Step old.naming history name old new
      (Where book name
      (NearOfHistory files old.naming history (Refuses book) ruling has holds Failed ended))
  near_rules_on files book ruling has holds Failed ended it =
      step_where (λ made so. record { came = it.answered; near = so; tells = it.tells })
      (near_comes_on files book (asks.Rule ruling) it.answered it.comes)

  -- a list of choices
  list_comes_on : (withheld : Bool) (had : Option (List ℕ)) (book : List ℕ)
      (came : Result ListAnswered CommandFault) → ComesOfList false withheld had book old new came
      → Step old.naming history name old new
      (Where book name (ListBy withheld had old.naming history (Refuses book) came))
  list_comes_on withheld had book (Ok told) comes =
      step_where (λ made follows. record {
        names = comes.names;
        lines = comes.lines;
        listed = comes.listed;
        all = comes.all;
        placed = comes.placed;
        numbered = comes.numbered;
        told = comes.came.told;
        follows = follows;
        says = comes.came.says;
      })
      (opened_on old.naming history name old new answered held book (Refuses book) (follow book)
      (ChoosesBy comes.came.said withheld old.naming comes.names)
      (ChoicesFollow withheld old.naming history comes.names)
      (chosen_on old.naming history name old new answered held comes.came.said withheld book
      comes.names)
      comes.came.told comes.came.done)
  list_comes_on withheld had book (Err why) comes =
      step_as (λ made is. (
        λ _. (
          either_as (old.refuses book) (Refuses book) (follow book)
              (IsListFault (front_of had) why) why comes.0,
          is,
        ),
        λ _. is,
      ))
      (none_on old.naming history name old new answered held book comes.1)

  list_on : (withheld : Bool) (had : Option (List ℕ)) (book : List ℕ) (has holds : Option (List ℕ))
      (Failed : Type 0) (ended : Ended) → ChoosesListed false withheld had book old new has holds
      Failed ended
      → Step old.naming history name old new
      (Where book name (ListOfHistory withheld had old.naming history
      (Refuses book) has holds Failed
      ended))
  list_on withheld had book has holds Failed ended it =
      step_where (λ made so. record { came = it.answered; listed = so; tells = it.tells })
      (list_comes_on withheld had book it.answered it.comes)

  -- the works of a dump
  dump_comes_on : (layout : Layout) (had : Option (List ℕ)) (book : List ℕ)
      (came : Result WorksAnswered CommandFault) → ComesOfDump layout had book old new came
      → Step old.naming history name old new
      (Where book name (DumpBy layout had old.naming history (Refuses book) came))
  dump_comes_on layout had book (Ok told) comes =
      step_where (λ made follows. record {
        named = comes.named;
        read = comes.read;
        follows = follows;
        stop = comes.came.stop;
      })
      (opened_on old.naming history name old new answered held book (Refuses book) (follow book)
      (WorksBy comes.came.said old.naming comes.named.names.items)
      (WorksMade old.naming history comes.named.names.items)
      (withheld_on old.naming history name old new answered held comes.came.said book
      comes.named.names.items)
      told.told comes.came.done)
  dump_comes_on layout had book (Err why) comes =
      step_as (λ made is. (
        λ _. (
          either_as (old.refuses book) (Refuses book) (follow book) (IsFileFault why) why comes.0,
          is,
        ),
        λ _. is,
      ))
      (none_on old.naming history name old new answered held book comes.1)

  dump_on : (layout : Layout) (had : Option (List ℕ)) (book : List ℕ) (has holds : Option (List ℕ))
      (Failed : Type 0) (ended : Ended)
      → WithholdsDump layout had book old new has holds Failed ended
      → Step old.naming history name old new
      (Where book name
      (DumpOfHistory layout had old.naming history (Refuses book) has holds Failed ended))
  dump_on layout had book has holds Failed ended it =
      step_where (λ made so. record { came = it.answered; withheld = so; tells = it.tells })
      (dump_comes_on layout had book it.answered it.comes)

  -- the works of the records that came by an entry, if the place does not refuse the books,
  works_come_on : (entry : ℕ) (book : List ℕ) (came : Result WorksAnswered CommandFault)
      → ComesOfWorks entry book old new came
      → Step old.naming history name old new
      (Where book name (EntryWorksBy entry old.naming history (Refuses book) came))
  works_come_on entry book (Ok told) comes =
      step_where (λ made follows. record {
        told = comes.told;
        follows = follows;
        says = comes.says;
        stop = comes.stop;
      })
      (opened_on old.naming history name old new answered held book (Refuses book) (follow book)
      (WithholdsImport comes.said old.naming entry) (EntryWorksMade old.naming history entry)
      (entry_withheld_on old.naming history name old new answered held comes.said book entry)
      comes.told comes.done)
  works_come_on entry book (Err why) comes =
      step_as (λ made is. (
        λ _. (shelf_as (old.refuses book) (Refuses book) (follow book) why comes.0, is),
        λ _. is,
      ))
      (none_on old.naming history name old new answered held book comes.1)

  -- if its number is one
  entry_comes_on : (number : Option ℕ) (book : List ℕ) (came : Result WorksAnswered CommandFault)
      → ComesOfEntry number book old new came
      → Step old.naming history name old new
      (Where book name (EntryBy number old.naming history (Refuses book) came))
  entry_comes_on (Some entry) book came comes = works_come_on entry book came comes
  entry_comes_on None book came comes =
      step_as (λ made is. (λ _. (comes.0, is), λ _. is))
      (none_on old.naming history name old new answered held book comes.1)

  entry_on : (number : Option ℕ) (book : List ℕ) (has holds : Option (List ℕ)) (Failed : Type 0)
      (ended : Ended) → WithholdsEntry number book old new has holds Failed ended
      → Step old.naming history name old new
      (Where book name
      (EntryOfHistory number old.naming history (Refuses book) has holds Failed ended))
  entry_on number book has holds Failed ended it =
      step_where (λ made so. record { came = it.answered; withheld = so; tells = it.tells })
      (entry_comes_on number book it.answered it.comes)

  -- or they were tried
  names_tried : (withheld : Bool) (book : List ℕ) (names : List (List ℕ))
      (told : Result (Result Chosen AllocError) RepositoryFault)
      → IsTried (ChoosesBy None withheld old.naming names) book old new told
      → Step old.naming history name old new (λ made. (book ≡ name
      → IfOk told (λ chosen. (events : List Event)
      × ChoicesFollow withheld old.naming history names chosen events))
      × IfErr told (Refuses book) × (made ≡ []))
  names_tried withheld book names (Ok chosen) tried =
      step_as (λ made is. (λ same. follows same, tt, is))
      (none_on old.naming history name old new answered held book tried.0)
    where
      follows : book ≡ name
          → (events : List Event) × ChoicesFollow withheld old.naming history names chosen events
      follows same =
          let found = tried.1 history (subst (λ name. old.holds name history) (sym same) held) in (
            found.0,
            choices_followed old.naming history name old new answered held None withheld names
                chosen
                found.0 (record { is = found.1; made_so = found.2 }),
          )
  names_tried withheld book names (Err fault) tried =
      step_as (λ made is. (λ _. tt, follow book fault tried.0, is))
      (none_on old.naming history name old new answered held book tried.1)

  list_tried : (withheld : Bool) (had : Option (List ℕ)) (book : List ℕ)
      (has holds : Option (List ℕ))
      (Failed : Type 0) (ended : Ended) → ChoosesListed true withheld had book old new has holds
      Failed ended
      → Step old.naming history name old new
      (Where book name
      (ListTriedOfHistory withheld had old.naming history (Refuses book) has holds Failed ended))
  list_tried withheld had book has holds Failed ended it =
      step_as (λ made so. (
        λ same. record {
          came = it.answered;
          tried = so.0 same;
          tells = it.tells;
          none = so.1;
        },
        λ _. so.1,
      ))
      (by_came it.answered it.comes)
    where
      by_came : (came : Result ListAnswered CommandFault)
          → ComesOfList true withheld had book old new came
          → Step old.naming history name old new
          (λ made. (book ≡ name
          → ListTriedBy withheld had old.naming history (Refuses book) came) × (made ≡ []))
      by_came (Ok listed) comes =
          step_as (λ made so. (
            λ same. record {
              names = comes.names;
              lines = comes.lines;
              listed = comes.listed;
              all = comes.all;
              placed = comes.placed;
              numbered = comes.numbered;
              told = comes.came.told;
              follows = so.0 same;
              refused = so.1;
              says = comes.came.says;
            },
            so.2,
          ))
          (names_tried withheld book comes.names comes.came.told comes.came.tried)
      by_came (Err why) comes =
          step_as (λ made is. (
            λ _. either_as (old.refuses book) (Refuses book) (follow book)
                (IsListFault (front_of had) why) why comes.0,
            is,
          ))
          (none_on old.naming history name old new answered held book comes.1)

  -- books that are untouched, whatever else a command does
  still_on : (book touched : List ℕ) → IsUntouched touched old new
      → Step old.naming history name old new (Where book name (λ made. made ≡ []))
  still_on book touched done =
      step_as (λ made is. (λ _. is, λ _. is))
      (none_on old.naming history name old new answered held touched done)

  -- a list was written, or why not
  list_written : (list : StreamedList) (book : List ℕ) (has holds : Option (List ℕ))
      (Failed : Type 0)
      (ended : Ended) → SettlesBy (ListsBy list book old new has holds Failed) ended
      → Step old.naming history name old new
      (Where book name (ListsOfHistory list old.naming history (Refuses book) has holds ended))
  list_written list book has holds Failed ended does =
      step_as (λ made so. (
        λ same. record {
          came = does.came;
          lists = so.0 same;
          ends = does.ends;
          none = so.1;
        },
        λ _. so.1,
      ))
      (by_came does.came does.does)
    where
      by_told : (told : Result (Result (Unit {0}) ReportFault) RepositoryFault)
          → IsOpened (WritesAnswerUntil (list_answer list) old.naming has holds) book old new told
          → ComesBy (WritesSomeOf list has holds) (holds ≡ has) told
          → Step old.naming history name old new
          (λ made. (book ≡ name
          → IsListed list (list_answer list old.naming (book_of history)) (Refuses book) has holds
          told) × (made ≡ []))
      by_told (Ok written) done some =
          listed_on old.naming history name old new answered held
          (list_answer list) book has holds written
          done
      by_told (Err Unseen) (refused, inl seen) some =
          step_as (λ made so. (λ _. (follow book Unseen refused, some), so.1))
          (listed_on old.naming history name old new answered held
          (list_answer list) book has holds seen.0
          seen.1)
      by_told (Err Unseen) (refused, inr none) some =
          step_as (λ made is. (λ _. (follow book Unseen refused, some), is))
          (none_on old.naming history name old new answered held book none)
      by_told (Err fault) (refused, none) same =
          step_as (λ made is. (λ _. (follow book fault refused, same), is))
          (none_on old.naming history name old new answered held book none)

      by_came : (came : Result Ended CommandFault)
          → ListsBy list book old new has holds Failed came
          → Step old.naming history name old new
          (λ made. (book ≡ name
          → ListsHistoryBy list old.naming history (Refuses book) has holds came) × (made ≡ []))
      by_came (Ok ended) it =
          step_as (λ made so. (
            λ same. record {
              told = it.told;
              flushed = it.flushed;
              listed = so.0 same;
              ends = it.ends;
              output = it.output;
            },
            so.1,
          ))
          (by_told it.told it.done it.some)
      by_came (Err why) it =
          step_as (λ made is. (
            λ _. (shelf_as (old.refuses book) (Refuses book) (follow book) why it.0, it.2),
            is,
          ))
          (none_on old.naming history name old new answered held book it.1)

  -- one that words ask for
  list_asked : (asked : Option StreamedList) (book : List ℕ) (has holds : Option (List ℕ))
      (Failed : Type 0) (ended : Ended)
      → SettlesBy (ListsAsked asked book old new has holds Failed) ended
      → Step old.naming history name old new
      (Where book name
      (ListsAskedOfHistory asked old.naming history (Refuses book) has holds ended))
  list_asked (Some list) book has holds Failed ended does =
      list_written list book has holds Failed ended
      (record { came = does.came; does = does.does; ends = does.ends })
  list_asked None book has holds Failed ended does =
      step_as (λ made is. (
        λ _. (does.ends ∙ ap settled_as does.does.0, does.does.2, is),
        λ _. is,
      ))
      (none_on old.naming history name old new answered held book does.does.1)

  -- a ruling that was tried
  tried_on : (book : List ℕ) (today : Option ℤ) (asked : Asked)
      (told : Result DatedAnswer RepositoryFault)
      → IsTried (TriesOnceBy old.naming today asked) book old new told
      → Step old.naming history name old new (λ made. (book ≡ name
      → IfOk told (λ dated. is_hindered (response_by dated.answer) ≡ false
      → ShowsDry old.naming today asked (book_of history) (response_by dated.answer) dated.notice))
      × IfErr told (Refuses book) × (made ≡ []))
  tried_on book today asked (Ok dated) tried =
      step_as (λ made is. (λ same. follows same, tt, is))
      (none_on old.naming history name old new answered held book tried.0)
    where
      follows : book ≡ name → is_hindered (response_by dated.answer) ≡ false
          → ShowsDry old.naming today asked (book_of history)
          (response_by dated.answer) dated.notice
      follows same free =
          let found = tried.1 history (subst (λ name. old.holds name history) (sym same) held) in
          subst (λ book. ShowsDry old.naming today asked book
          (response_by dated.answer) dated.notice)
          (books_follow_history history) (found.2.shows refl free)
  tried_on book today asked (Err fault) tried =
      step_as (λ made is. (λ _. tt, follow book fault tried.0, is))
      (none_on old.naming history name old new answered held book tried.1)

  tries_on : (files : Files) (book : List ℕ) (ruling : Ruling) (has holds : Option (List ℕ))
      (Failed : Type 0) (ended : Ended) → TriesAndTells files ruling book old new has holds Failed
      ended
      → Step old.naming history name old new
      (Where book name
      (TriesOfHistory files old.naming history (Refuses book) ruling has holds Failed ended))
  tries_on files book ruling has holds Failed ended it =
      step_as (λ made so. (
        λ same. record {
          came = it.answered;
          tried = so.0 same;
          tells = it.tells;
          none = so.1;
        },
        λ _. so.1,
      ))
      (by_came it.answered it.comes)
    where
      by_came : (came : Result Answered CommandFault)
          → ComesOfDryRun files (asks.Rule ruling) book old new came
          → Step old.naming history name old new
          (λ made. (book ≡ name
          → TriedBy files old.naming history (Refuses book) (asks.Rule ruling) came) × (made ≡ []))
      by_came (Ok answered) comes =
          step_as (λ made so. (
            λ same. record {
              asked = comes.asked;
              words = comes.words;
              told = comes.came.told;
              follows = so.0 same;
              refused = so.1;
              says = comes.came.says;
              notice = comes.came.notice;
            },
            so.2,
          ))
          (tried_on book files.today comes.asked comes.came.told comes.came.tried)
      by_came (Err why) comes =
          step_as (λ made is. (λ _. nothing files book (asks.Rule ruling) why comes.0, is))
          (none_on old.naming history name old new answered held book comes.1)

  upgrades_on : (book : List ℕ) (has holds : Option (List ℕ)) (Failed : Type 0)
      (came : Result Ended CommandFault) → UpgradesBy book old new has holds Failed came
      → Step old.naming history name old new (Where book name (λ made. made ≡ []))
  upgrades_on book has holds Failed (Ok ended) it = still_on book book it.done
  upgrades_on book has holds Failed (Err why) it = still_on book book it.1

  -- what an audit told of the history that the books hold
  audit_told : (book : List ℕ) (audited : Result Audited RepositoryFault) → book ≡ name
      → IsAudited book old audited → AuditsOf history (Refuses book) audited
  audit_told book (Ok (Sound counts)) same it =
      it.1 history (subst (λ name. old.holds name history) (sym same) held)
  audit_told book (Ok (Unsound finding)) same it = tt
  audit_told book (Err fault) same it = follow book fault it

  audits_on : (book : List ℕ) (has holds : Option (List ℕ)) (Failed : Type 0)
      (came : Result Ended CommandFault) → AuditsBooks book old new has holds Failed came
      → Step old.naming history name old new
      (Where book name (AuditsHistoryBy history (Refuses book) has holds Failed came))
  audits_on book has holds Failed (Ok ended) it =
      step_as (λ made so. (
        λ same. record {
          audited = it.audited;
          says = audit_told book it.audited same it.done.1;
          tells = it.ends;
          none = so.0 same;
        },
        so.1,
      ))
      (still_on book book it.done.0)
  audits_on book has holds Failed (Err why) it =
      step_where
      (λ made none. (shelf_as (old.refuses book) (Refuses book) (follow book) why it.0, it.2, none))
      (still_on book book it.1)

  backs_up_on : (book copy : List ℕ) (has holds : Option (List ℕ)) (Failed : Type 0)
      (came : Result Ended CommandFault) → BacksUp book copy old new has holds Failed came
      → Step old.naming history name old new (Where book name (λ made. made ≡ []))
  backs_up_on book copy has holds Failed (Ok ended) it = still_on book copy it.done.kept
  backs_up_on book copy has holds Failed (Err why) it = still_on book book it.1

-- from one place to another
module _ {S : Type 0} (shelf : S → Shelf) (history : List Event) (name : List ℕ) (before after : S)
    (answered : IsMadeByCalls (shelf before).naming history) (held :
    (shelf before).holds name history)
    (Refuses : List ℕ → RepositoryFault → Type 0)
    (follow : (book : List ℕ) (fault : RepositoryFault) → (shelf before).refuses book fault
    → Refuses book fault) where
  -- why a service ended early
  cause_as : (book : List ℕ) (served : Result Bool CommandFault)
      → IfErr served (IsServiceFault ((shelf before).refuses book))
      → IfErr served (IsServiceFault (Refuses book))
  cause_as book (Ok failed) cause = tt
  cause_as book (Err why) cause =
      either_as ((shelf before).refuses book) (Refuses book) (follow book)
      (IsFileFault why) why cause

  -- connections in turn, or none
  serves_on : (book : List ℕ) (requests : ℕ) (has holds : Option (List ℕ)) (Failed : Type 0)
      (came : Result Ended CommandFault)
      → ServesBy shelf requests book before after has holds Failed came
      → Step (shelf before).naming history name (shelf before) (shelf after)
      (Where book name
      (λ made. ServesHistoryBy (shelf before).naming history (Refuses book) requests has holds
      Failed
      came made))
  serves_on book requests has holds Failed (Ok ended) it =
      step_where (λ made made_it. record {
        told = it.told;
        is = made_it.is;
        made_so = made_it.made_so;
        served = it.served;
        all = it.all;
        early = it.early;
        cause = cause_as book it.served it.cause;
        ends = it.ends;
      })
      (work_on (shelf before).naming history name (shelf before) (shelf after) answered held book
      (ServesEach (shelf before).naming it.told) (each_answered (shelf before).naming it.told)
      (turn_done shelf book before after it.told it.turn))
  serves_on book requests has holds Failed (Err why) it =
      step_as (λ made is. (
        λ _. (
          shelf_as ((shelf before).refuses book) (Refuses book)
              (follow book) why it.0,
          it.2,
          is,
        ),
        λ _. is,
      ))
      (none_on (shelf before).naming history name (shelf before)
      (shelf after) answered held book it.1)

  does_on : (files : Files) (book : List ℕ) (request : BookRequest) (has holds : Option (List ℕ))
      (Failed : Type 0) (ended : Ended) → Does files shelf request book before after has holds
      Failed ended
      → Step (shelf before).naming history name (shelf before) (shelf after)
      (Where book name
      (DoesToHistory files (shelf before).naming history (Refuses book) request has holds Failed
      ended))
  does_on files book asks.Init has holds Failed ended does =
      still_on history name (shelf before) (shelf after) answered held Refuses follow book book
      does.done.kept
  does_on files book asks.Upgrade has holds Failed ended does =
      upgrades_on history name (shelf before) (shelf after) answered held Refuses follow book has
      holds
      Failed does.came does.does
  does_on files book (asks.Audit quiet) has holds Failed ended does =
      step_where (λ made so. record { came = does.came; audits = so; ends = does.ends })
      (audits_on history name (shelf before) (shelf after) answered held Refuses follow book has
      holds
      Failed does.came does.does)
  does_on files book (asks.BackUp copy quiet) has holds Failed ended does =
      backs_up_on history name (shelf before) (shelf after) answered held Refuses follow book
      copy.now
      has holds Failed does.came does.does
  does_on files book (asks.Serve port requests) has holds Failed ended does =
      step_where (λ made so. record { came = does.came; serves = so; ends = does.ends })
      (serves_on book requests has holds Failed does.came does.does)
  does_on files book (asks.List asked) has holds Failed ended does =
      list_asked history name (shelf before) (shelf after) answered held Refuses follow
      (list_of asked)
      book has holds Failed ended does
  does_on files book (asks.ChooseListed withheld file) has holds Failed ended does =
      list_on history name (shelf before) (shelf after) answered held Refuses follow withheld
      (files.holds file.now) book has holds Failed ended does
  does_on files book (asks.TryListed withheld file) has holds Failed ended does =
      list_tried history name (shelf before) (shelf after) answered held Refuses follow withheld
      (files.holds file.now) book has holds Failed ended does
  does_on files book (asks.WithholdDump file layout) has holds Failed ended does =
      dump_on history name (shelf before) (shelf after) answered held Refuses follow layout
      (files.holds file.now) book has holds Failed ended does
  does_on files book (asks.WithholdImport number) has holds Failed ended does =
      entry_on history name (shelf before) (shelf after) answered held Refuses follow
      (entry_number number.now) book has holds Failed ended does
  does_on files book (asks.DryRun ruling) has holds Failed ended does =
      tries_on history name (shelf before) (shelf after) answered held Refuses follow files book
      ruling
      has holds Failed ended does
  does_on files book (asks.RuleNear ruling) has holds Failed ended does =
      near_rules_on history name (shelf before) (shelf after) answered held Refuses follow files
      book
      ruling has holds Failed ended does
  does_on files book request has holds Failed ended does =
      asks_on history name (shelf before) (shelf after) answered held Refuses follow files book
      request
      has holds Failed ended does

-- the place of the books is as it was
same_place : {S : Type 0} (shelf : S → Shelf) (history : List Event) (name : List ℕ) (old new : S)
    → IsMadeByCalls (shelf old).naming history → (shelf old).holds name history → new ≡ old
    → Step (shelf old).naming history name (shelf old) (shelf new) (λ made. made ≡ [])
same_place shelf history name old new answered held same = record {
  made = [];
  so = refl;
  answered = answered;
  held = subst (λ place. (shelf place).holds name history) (sym same) held;
  named = ap (λ place. (shelf place).naming) same;
}

-- a request on books was done, or there was no memory for its note
noted_on : {S : Type 0} (files : Files) (shelf : S → Shelf) (waits : S → ℕ → Type 0)
    (history : List Event) (name : List ℕ) (old new : S)
    → IsMadeByCalls (shelf old).naming history → (shelf old).holds name history
    → (book : List ℕ) (seconds : ℕ) (asked : BookRequest) (has holds : Option (List ℕ))
    (Failed : Type 0) (ended : Ended) (status : Status)
    → status ≡ status_by ended
    → UnlessUnnoted old new has holds ended
    (WaitsAndDoes files shelf waits old new seconds asked book has holds Failed ended)
    → Step (shelf old).naming history name (shelf old) (shelf new)
    (OnBooksIfNoted files (shelf old).naming name book history ((shelf old).refuses book) asked has
    holds Failed status)
noted_on files shelf waits history name old new answered held book seconds asked has holds Failed
    ended
    status ends (inr none) =
    step_as (λ made is. inr is) (same_place shelf history name old new answered held none.0)
noted_on files shelf waits history name old new answered held book seconds asked has holds Failed
    ended
    status ends (inl it) =
    let same = it.same.naming in
    let calls = subst (λ naming. IsMadeByCalls naming history) (sym same) answered in
    let step = does_on shelf history name it.waiting new calls (it.same.holds name history held)
    (shelf old).refuses it.same.refuses files book asked has holds Failed ended it.does in
    step_as (λ made so. inl (record {
      ended = ended;
      ends = ends;
      here = so.0;
      elsewhere = so.1;
    }))
    (subst (λ naming. Step naming history name (shelf old) (shelf new)
    (Where book name
    (DoesToHistory files naming history ((shelf old).refuses book) asked has holds Failed ended)))
    same (step_from same step))

runs_on : {S : Type 0} (files : Files) (shelf : S → Shelf) (waits : S → ℕ → Type 0)
    (history : List Event) (name : List ℕ) (old new : S)
    → IsMadeByCalls (shelf old).naming history → (shelf old).holds name history
    → (asked : Result Request ArgumentFault) (had has holds : Option (List ℕ)) (Failed : Type 0)
    (Says : List (List ℕ) → Type 0) (status : Status)
    → DoesOrRefuses files shelf waits old new asked had has holds Failed Says status
    → Step (shelf old).naming history name (shelf old) (shelf new)
    (RunsOn files (shelf old).naming name history (shelf old).refuses asked has holds Failed status)
runs_on files shelf waits history name old new answered held
    (Ok (request.OfBooks book wait note asked)) had has holds Failed Says status done =
    noted_on files shelf waits history name old new answered held book.now
    (wait_for asked wait) asked
    has holds Failed done.0 status done.2 done.1
runs_on files shelf waits history name old new answered held
    (Ok (request.Trial layout cpu excp fee whole)) had has holds Failed Says status done =
    same_place shelf history name old new answered held done.1.0
runs_on files shelf waits history name old new answered held
    (Ok (request.TrialUnder layout file whole)) had has holds Failed Says status done =
    same_place shelf history name old new answered held done.1.0
runs_on files shelf waits history name old new answered held (Ok
    (request.Unclear why)) had has holds Failed
    Says status done =
    same_place shelf history name old new answered held done.1.0
runs_on files shelf waits history name old new answered held (Ok
    (request.Check dump names)) had has holds Failed
    Says status done =
    same_place shelf history name old new answered held done.1.0
runs_on files shelf waits history name old new answered held (Ok
    (request.Explain kind number)) had has
    holds Failed Says status done =
    same_place shelf history name old new answered held done.1.0
runs_on files shelf waits history name old new answered held (Err fault) had has holds Failed Says
    status
    done =
    same_place shelf history name old new answered held done.0

-- commands in turn, at a place that names records so
in_turn : {S O E : Type 0} (shelf : S → Shelf) (waits : S → ℕ → Type 0)
    (contents : O → Option (List ℕ)) (may_answer : Answering O)
    (Says : List (List ℕ) → E → E → Type 0)
    (naming : Naming) (name : List ℕ) (start : List Event) (before : S)
    (commands : List (Commanded S O E))
    → (shelf before).naming ≡ naming → IsMadeByCalls naming start → (shelf before).holds name start
    → AreCommanded shelf waits contents may_answer Says before commands
    → LeaveHistory shelf contents may_answer before naming name start commands
    (place_after before commands)
in_turn shelf waits contents may_answer Says naming name start before [] names answered held done =
    record { end = start; done = refl; held = held }
in_turn shelf waits contents may_answer Says naming name start before
    (command ∷ later) names answered
    held done =
    let one = done.0 in
    let Failed : Type 0 = ∥ HasFailed may_answer command.holds ∥₁ in
    let step = subst (λ naming. Step naming start name (shelf before) (shelf command.after)
    (RunsOn command.files naming name start (shelf before).refuses one.asked (contents command.held)
    (contents command.holds) Failed command.status)) names
    (runs_on command.files shelf waits start name before command.after
    (subst (λ naming. IsMadeByCalls naming start) (sym names) answered) held one.asked command.had
    (contents command.held) (contents command.holds) Failed
    (λ lines. Says lines command.quiet command.said) command.status one.done) in
    let rest = in_turn shelf waits contents may_answer Says naming name (step.made ++ start)
    command.after later (step.named ∙ names) step.answered step.held done.1 in
    record {
      end = rest.end;
      done = (
        step.made,
        record { asked = one.asked; read = one.read; runs = step.so; answered = step.answered },
        rest.done,
      );
      held = rest.held;
    }

-- the headline
pub commands_follow_history : {S O E : Type 0} (shelf : S → Shelf) (waits : S → ℕ → Type 0)
    (contents : O → Option (List ℕ)) (may_answer : Answering O)
    (Says : List (List ℕ) → E → E → Type 0)
    → CommandsFollowHistory shelf waits contents may_answer Says
commands_follow_history shelf waits contents may_answer Says name start before commands answered
    held
    done =
    in_turn shelf waits contents may_answer Says (shelf before).naming name start before commands
    refl
    answered held done
