-- Laws of the journal.
use Rattle.std.specs.Prelude.{◌≡◌, ℕ, zero, suc, ◌+◌, ◌==◌, ◌≤◌, Bool, true, false, List}
use Rattle.std.specs.Prelude.{[], ◌∷◌, ◌++◌, length, map, filter_map, if◌then◌else◌, Option}
use Rattle.std.specs.Prelude.{Some, None, ℤ, is_some}
use Rattle.tariff_rules.specs.Terms.{Terms}
use Rattle.book_model.specs.Sets.{has, members}
use Rattle.book_model.specs.Records.{Naming, name_of}
use Rattle.book_model.specs.Journal.{Act, Entry, Place, Ruled, CloseOf, ChoiceOf, CreditOf, Note}
use Rattle.book_model.specs.Journal.{AdoptionOf, ReplacementOf, TariffOf, place_of}
use Rattle.book_model.specs.Rulings.{TariffAccepted, TariffReplaced, with_replaced, with_tariff}
use Rattle.book_model.specs.RulingLists.{TariffSeen}
use Rattle.book_model.specs.Rulings.{AcceptedTerms}
use Rattle.book_model.specs.Rulings.{Rulings, RecordChosen, WorkWithheld, CreditGiven, open_by}
use Rattle.book_model.specs.Rulings.{with_choice, with_close, with_credit, with_withheld}
use Rattle.book_model.specs.RulingLists.{ChoiceSeen, CloseSeen, CreditSeen, RulingSeen}
use Rattle.book_model.specs.RulingLists.{WithheldSeen}
use Rattle.book_model.specs.JournalLists.{ruling_at}
use Rattle.book_model.specs.Journal.{came_by, goes_on, kept_by, kept_in_all, times_kept}
use Rattle.book_model.specs.Books.{Book}
use Rattle.book_model.specs.Journal.{Ending}
use Rattle.book_model.specs.Events.{ImportEnded}
use Rattle.book_model.specs.Events.{Event, RecordKept, PeriodClosed, RulingGiven, after, after_all}
use Rattle.book_model.specs.RulingsAsked.{RulingAsked}
use Rattle.book_model.specs.Outcomes.{Outcome, accept_outcome, tariff_outcome, replace_outcome}
use Rattle.book_model.specs.Outcomes.{close_outcome, choose_outcome, withhold_outcome}
use Rattle.book_model.specs.Outcomes.{adopt_outcome}
use Rattle.book_model.specs.Outcomes.{credit_outcome, charges_outcome, what_if_outcome}
use Rattle.book_model.specs.Outcomes.{adjustments_outcome, disputes_outcome, dispute_outcome}
use Rattle.book_model.specs.Outcomes.{periods_outcome, rule_outcome, ruling_outcome}
use Rattle.book_model.specs.Details.{details_outcome}
use Rattle.book_model.specs.Trails.{trail_outcome}
use Rattle.book_model.specs.Bills.{bill_outcome}
use Rattle.book_model.specs.History.{book_after, journal, rulings}
use Rattle.book_model.specs.MadeByCalls.{IsMadeByCalls}
use Rattle.book_model.specs.Notes.{Portion, import_events, told_so_far, with_ended, with_import}
use Rattle.book_model.specs.RecordBatches.{rulings_in, record_batches}

-- ---- nothing else depends on the journal

-- the book without its journal
abbrev pub unjournaled : Book → Book
unjournaled book = record book { journal = [] }

-- the events without their notes, and without those of imports
abbrev pub without_notes : List Event → List Event
without_notes [] = []
without_notes (RecordKept bytes ∷ older) = RecordKept bytes ∷ without_notes older
without_notes (PeriodClosed said day ∷ older) = PeriodClosed None day ∷ without_notes older
without_notes (RulingGiven said ruling ∷ older) = RulingGiven None ruling ∷ without_notes older
without_notes (event ∷ older) = without_notes older

-- But for the journal, events leave the books that they leave without notes and imports. So events
-- that differ in nothing else leave the same books.
abbrev pub JournalStandsApart : Type 0
JournalStandsApart =
    (before : Book) (events : List Event)
    → unjournaled (after_all events before)
    ≡ after_all (without_notes events) (unjournaled before)

-- an answer reads no journal
abbrev pub ReadsNoJournal : {A : Type 0} → (Book → Outcome A) → Type 0
ReadsNoJournal outcome = (book : Book) → outcome (unjournaled book) ≡ outcome book

-- No report and no answer to a record or a ruling does.
pub record NoneReadsTheJournal : Type 0 where
  pub accept : (naming : Naming) (bytes : List ℕ) → ReadsNoJournal (accept_outcome naming bytes)
  pub tariff : (said : Option Note) (text : List ℕ) → ReadsNoJournal (tariff_outcome said text)
  pub replace : (said : Option Note) (text : List ℕ) → ReadsNoJournal (replace_outcome said text)
  pub close : (said : Option Note) (number : ℕ) (day : ℤ)
      → ReadsNoJournal (close_outcome said number day)
  pub choose : (naming : Naming) (said : Option Note) (name : List ℕ)
      → ReadsNoJournal (choose_outcome naming said name)
  pub withhold : (naming : Naming) (said : Option Note) (name : List ℕ)
      → ReadsNoJournal (withhold_outcome naming said name)
  pub adopt : (said : Option Note) (rule : ℕ) → ReadsNoJournal (adopt_outcome said rule)
  pub credit : (said : Option Note) (number : ℕ) (centre : List ℕ) (amount : ℤ) (reason : List ℕ)
      → ReadsNoJournal (credit_outcome said number centre amount reason)
  pub rule : (naming : Naming) (said : Option Note) (asked : RulingAsked)
      → ReadsNoJournal (rule_outcome naming said asked)
  pub charges : (number : ℕ) → ReadsNoJournal (charges_outcome number)
  pub what_if : (number : ℕ) (terms : Terms) → ReadsNoJournal (what_if_outcome number terms)
  pub adjustments : (naming : Naming) (number : ℕ)
      → ReadsNoJournal (adjustments_outcome naming number)
  pub disputes : (naming : Naming) → ReadsNoJournal (disputes_outcome naming)
  pub dispute : (naming : Naming) (from : List ℕ) → ReadsNoJournal (dispute_outcome naming from)
  pub periods : ReadsNoJournal periods_outcome
  pub ruling : (naming : Naming) (number : ℕ) → ReadsNoJournal (ruling_outcome naming number)
  pub details : (naming : Naming) (number : ℕ) (centre : Option (List ℕ))
      → ReadsNoJournal (details_outcome naming number centre)
  pub trail : (naming : Naming) (name : List ℕ) → ReadsNoJournal (trail_outcome naming name)
  pub bill : (naming : Naming) (number : ℕ) (centre : Option (List ℕ))
      → ReadsNoJournal (bill_outcome naming number centre)

-- histories that differ only in times, persons, remarks, files and imports give the same answer
abbrev pub TellsTheSame : {A : Type 0} → (Book → Outcome A) → Type 0
TellsTheSame outcome =
    (one other : List Event) → without_notes one ≡ without_notes other
    → outcome (book_after one) ≡ outcome (book_after other)

-- So each report is the same of such histories.
pub record NotesChangeNoReport : Type 0 where
  pub charges : (number : ℕ) → TellsTheSame (charges_outcome number)
  pub what_if : (number : ℕ) (terms : Terms) → TellsTheSame (what_if_outcome number terms)
  pub adjustments : (naming : Naming) (number : ℕ) → TellsTheSame (adjustments_outcome naming number)
  pub disputes : (naming : Naming) → TellsTheSame (disputes_outcome naming)
  pub dispute : (naming : Naming) (from : List ℕ) → TellsTheSame (dispute_outcome naming from)
  pub periods : TellsTheSame periods_outcome
  pub ruling : (naming : Naming) (number : ℕ) → TellsTheSame (ruling_outcome naming number)
  pub details : (naming : Naming) (number : ℕ) (centre : Option (List ℕ))
      → TellsTheSame (details_outcome naming number centre)
  pub trail : (naming : Naming) (name : List ℕ) → TellsTheSame (trail_outcome naming name)
  pub bill : (naming : Naming) (number : ℕ) (centre : Option (List ℕ))
      → TellsTheSame (bill_outcome naming number centre)

-- How records were cut into imports makes no difference, nor in which order, and how often, they
-- came between two rulings: but for the journal, the books are the same.
abbrev pub ImportsAreFree : Type 0
ImportsAreFree =
    (before : Book) (one other : List Event)
    → rulings_in (without_notes one) ≡ rulings_in (without_notes other)
    → record_batches (without_notes one) ≡ record_batches (without_notes other)
    → unjournaled (after_all one before) ≡ unjournaled (after_all other before)

-- ---- each record came by one import

-- the newest entry is of an import that goes on
abbrev pub goes_on_in : List Entry → Bool
goes_on_in [] = false
goes_on_in (entry ∷ older) = goes_on entry.act

-- how many records were kept while no import went on
abbrev pub kept_outside : List Event → ℕ
kept_outside [] = 0
kept_outside (RecordKept bytes ∷ older) =
    if goes_on_in (journal older) then kept_outside older else suc (kept_outside older)
kept_outside (event ∷ older) = kept_outside older

-- What is not held no import kept; what is held at most one, and just one where each record was
-- kept while an import went on. The records that the imports kept, and those that were kept while
-- none went on, add up to those that are held. And the import by which a record came stays.
pub record EachCameOnce : Type 0 where
  pub none :
      (naming : Naming) (history : List Event) (bytes : List ℕ) → IsMadeByCalls naming history
      → has (book_after history).held bytes ≡ false → times_kept (journal history) bytes ≡ 0
  pub once :
      (naming : Naming) (history : List Event) (bytes : List ℕ) → IsMadeByCalls naming history
      → times_kept (journal history) bytes ≤ 1
  pub all :
      (naming : Naming) (history : List Event) (bytes : List ℕ) → IsMadeByCalls naming history
      → kept_outside history ≡ 0 → has (book_after history).held bytes ≡ true
      → times_kept (journal history) bytes ≡ 1
  pub sum :
      (naming : Naming) (history : List Event) → IsMadeByCalls naming history
      → kept_in_all (journal history) + kept_outside history
      ≡ length (members (book_after history).held)
  pub stays :
      (naming : Naming) (history : List Event) (event : Event) (bytes : List ℕ)
      → IsMadeByCalls naming (event ∷ history)
      → has (book_after history).held bytes ≡ true
      → came_by (journal (event ∷ history)) bytes ≡ came_by (journal history) bytes
  pub told : (entries : List Entry) (bytes : List ℕ)
      → (came_by entries bytes == 0) ≡ (times_kept entries bytes == 0)

-- An import has one entry, if it kept a record, and none else; wherever it is stopped, the entry
-- has all that it kept, and what it had read when it kept something last. Once it has ended, the
-- entry says why.
pub record OneEntryAnImport : Type 0 where
  pub so_far :
      (before : Book) (note : Note) (portions : List Portion)
      → (after_all (import_events note portions) before).journal
      ≡ with_import note (told_so_far portions) before.journal
  pub ended :
      (before : Book) (note : Note) (portions : List Portion) (ending : Ending)
      → is_some (told_so_far portions) ≡ true
      → (after_all (ImportEnded ending ∷ import_events note portions) before).journal
      ≡ with_ended note ending (told_so_far portions) before.journal

-- ---- no entry changes or goes

-- What an entry and those older than it have become: they stand where they stood. The older ones
-- are as they were, and the entry too, but for an import that went on: it may have kept more. Its
-- note is as it was.
pub record Stays (entry : Entry) (older now : List Entry) : Type 0 where
  pub newer : List Entry
  pub own : Entry
  pub place : now ≡ newer ++ own ∷ older
  pub note : own.note ≡ entry.note
  pub settled : goes_on entry.act ≡ false → own ≡ entry
  pub kept : (bytes : List ℕ) → has (kept_by entry.act) bytes ≡ true
      → has (kept_by own.act) bytes ≡ true

-- so it is, whatever comes
abbrev pub EntriesStay : Type 0
EntriesStay =
    (before : Book) (entry : Entry) (older : List Entry) (events : List Event)
    → before.journal ≡ entry ∷ older → Stays entry older (after_all events before).journal

-- ---- the journal has the rulings, in their order

-- each ruling came with a note
abbrev pub AreNoted : List Event → Type 0
AreNoted [] = Unit {0}
AreNoted (PeriodClosed None day ∷ older) = ⊥
AreNoted (RulingGiven None ruling ∷ older) = ⊥
AreNoted (event ∷ older) = AreNoted older

-- the numbers from this one down to 1
abbrev pub down_from : ℕ → List ℕ
down_from zero = []
down_from (suc number) = suc number ∷ down_from number

-- the period of a close, and the numbers of a choice and of a credit
abbrev pub close_in : Act → Option ℕ
close_in (Ruled (CloseOf period)) = Some period
close_in act = None

abbrev pub choice_in : Act → Option ℕ
choice_in (Ruled (ChoiceOf number)) = Some number
choice_in act = None

abbrev pub credit_in : Act → Option ℕ
credit_in (Ruled (CreditOf number)) = Some number
credit_in act = None

-- the first day of a tariff that did not come in another's place
abbrev pub tariff_in : Act → Option ℤ
tariff_in (Ruled (TariffOf day)) = Some day
tariff_in act = None

-- the adoption of the second rule of identity
abbrev pub adoption_in : Act → Option (Unit {0})
adoption_in (Ruled AdoptionOf) = Some tt
adoption_in act = None

-- it is named once, if the rule was adopted
abbrev pub adoption_once : Option ℕ → List (Unit {0})
adoption_once None = []
adoption_once (Some period) = tt ∷ []

-- what the entries name so, the newest first
abbrev pub entered : {X : Type 0} → (Act → Option X) → List Entry → List X
entered kind entries = filter_map (λ entry. kind entry.act) entries

-- a list with its last element first
abbrev pub newest_first : {X : Type 0} → List X → List X
newest_first [] = []
newest_first (first ∷ later) = newest_first later ++ first ∷ []

-- the first days of some tariffs, the newest first
abbrev pub days_back : List AcceptedTerms → List ℤ
days_back tariffs = newest_first (map (λ tariff. tariff.terms.effective) tariffs)

-- Where each ruling came with a note, the journal names each tariff, each close, each choice and
-- each credit once, in the order in which they came; and the adoption once, if calls made it.
pub record RulingsAreEntered : Type 0 where
  pub adoption : (naming : Naming) (history : List Event) → IsMadeByCalls naming history
      → AreNoted history
      → entered adoption_in (journal history) ≡ adoption_once (rulings history).adopted
  pub tariffs : (history : List Event) → AreNoted history
      → entered tariff_in (journal history) ≡ days_back (rulings history).tariffs
  pub closes : (history : List Event) → AreNoted history
      → entered close_in (journal history) ≡ down_from (length (rulings history).closes)
  pub choices : (history : List Event) → AreNoted history
      → entered choice_in (journal history) ≡ down_from (length (rulings history).choices)
  pub credits : (history : List Event) → AreNoted history
      → entered credit_in (journal history) ≡ down_from (length (rulings history).credits)

-- The words of an entry are those of the ruling that was given, and stay, whatever comes.
pub record WordsStay : Type 0 where
  pub close : (naming : Naming) (rulings : Rulings) (day : ℤ)
      → ruling_at naming (with_close day rulings) (CloseOf (open_by rulings))
      ≡ Some (CloseSeen (open_by rulings) day)
  pub choice : (naming : Naming) (rulings : Rulings) (bytes : List ℕ)
      → ruling_at naming (with_choice bytes rulings) (place_of (RecordChosen bytes) rulings)
      ≡ Some (ChoiceSeen (length rulings.choices + 1) (open_by rulings) (name_of naming bytes))
  pub withheld : (naming : Naming) (rulings : Rulings) (bytes : List ℕ)
      → ruling_at naming (with_withheld bytes rulings) (place_of (WorkWithheld bytes) rulings)
      ≡ Some (WithheldSeen (length rulings.choices + 1) (open_by rulings) (name_of naming bytes))
  pub credit : (naming : Naming) (rulings : Rulings) (centre : List ℕ) (amount : ℤ)
      (reason : List ℕ)
      → ruling_at naming (with_credit centre amount reason rulings)
      (place_of (CreditGiven centre amount reason) rulings)
      ≡ Some (CreditSeen (length rulings.credits + 1) (open_by rulings) centre amount reason)
  pub stays : (naming : Naming) (book : Book) (event : Event) (place : Place) (seen : RulingSeen)
      → ruling_at naming book.rulings place ≡ Some seen
      → ruling_at naming (after event book).rulings place ≡ Some seen

-- So are the words of a tariff: where calls made the history, the place of a tariff, and of one
-- that took another's place, leads to the text that was given.
pub record TariffWordsAreGiven : Type 0 where
  pub first :
      (naming : Naming) (history : List Event) (said : Option Note) (text : List ℕ) (terms : Terms)
      → IsMadeByCalls naming (RulingGiven said (TariffAccepted (Some text) terms) ∷ history)
      → ruling_at naming (with_tariff (Some text) terms (rulings history)) (TariffOf terms.effective)
      ≡ Some (TariffSeen terms.effective text)
  pub later :
      (naming : Naming) (history : List Event) (said : Option Note) (text : List ℕ) (terms : Terms)
      → IsMadeByCalls naming (RulingGiven said (TariffReplaced text terms) ∷ history)
      → ruling_at naming (with_replaced text terms (rulings history))
      (ReplacementOf (length (rulings history).replaced + 1))
      ≡ Some (TariffSeen terms.effective text)
