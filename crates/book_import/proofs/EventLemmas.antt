-- Imports make only events that the books answered.
use Rattle.std.proofs.Common.{◌≡◌, ◌∙◌, ℕ, Bool, true, false, List, [], ◌∷◌, ◌++◌, refl, sym, ap}
use Rattle.std.proofs.Common.{subst, Result, Ok, Err, Option, None, Some, take, map, is_some}
use Rattle.book_model.specs.Words.{class_of, Naming, accept_answer, Event, after_any}
use Rattle.book_model.specs.Words.{AreMadeOf, Book, ImportBegun, ImportEnded, ImportRead, Note}
use Rattle.book_model.specs.Words.{PeriodClosed, Portion, Reading, RecordKept, RulingGiven}
use Rattle.book_model.specs.Words.{accept_event, after_all, front, import_events, told, told_so_far}
use Rattle.book_model.specs.JournalLaws.{unjournaled, without_notes}
use Rattle.book_model.proofs.JournalLemmas.{journal_stands_apart}
use Rattle.smf_frames.specs.declared.dump.Layout.{Layout}
use Rattle.smf_type30.specs.declared.record_class.Class.{Class}
use Rattle.smf_type30.specs.declared.record_class.Class.TheVariants.{Usage}
use Rattle.book_model.specs.declared.answer.Accepted.{Accepted}
use Rattle.book_model.specs.declared.fault.LedgerFault.{LedgerFault}
use Rattle.book_model.specs.declared.fault.LedgerFault.TheVariants.{Memory, Store}
use Rattle.book_core.specs.Calls.{listed}
use Rattle.book_core.proofs.FollowLemmas.{accept_event-answered, made_more}
use Rattle.book_core.specs.Follow.{MakesAnswered}
use Rattle.book_import.specs.declared.receipt.Receipt.{Receipt}
use Rattle.book_model.specs.declared.note.Stop.{Stop}
use Rattle.book_model.specs.declared.note.Stop.TheVariants.{Ledger}
use Rattle.book_import.specs.Handled.{Imported, answers_of, after_answer, handle_by, handle, continue_with}
use Rattle.book_import.specs.Handled.{handle_all, nothing_imported}
use Rattle.book_import.specs.Dumps.{stop_after}
use Rattle.book_import.specs.Imports.{Handles, whole, out_of_memory, store_failed}
use Rattle.book_import.specs.ImportEntries.{ImportsOf, Says, with_end}
use Rattle.book_core.proofs.SubmissionLemmas.{AreKept}
use Rattle.book_import.proofs.NoRulingLemmas.{handles_kept}
use Rattle.book_import.proofs.SayingLemmas.{kept_alone}

-- The events so far are answered, and the book is the one that they lead to.
record IsAnsweredSoFar (naming : Naming) (start : Book) (so_far : Imported) : Type 0 where
  answered : AreMadeOf naming start so_far.events
  book : so_far.book ≡ after_all so_far.events start

-- the same for what came of a record
abbrev StaysAnswered : Naming → Book → Result Imported LedgerFault → Type 0
StaysAnswered naming start (Ok next) = IsAnsweredSoFar naming start next
StaysAnswered naming start (Err fault) = Unit {0}

-- one more event, or none
book_listed : (event : Option Event) (events : List Event) (start : Book)
    → after_any event (after_all events start) ≡ after_all (listed event ++ events) start
book_listed None events start = refl
book_listed (Some event) events start = refl

-- a usage record that was answered so
usage_answered : (naming : Naming) (bytes : List ℕ) (start : Book) (so_far : Imported)
    (answer : Result Accepted LedgerFault)
    → accept_answer naming (after_all so_far.events start) bytes ≡ answer
    → IsAnsweredSoFar naming start so_far
    → StaysAnswered naming start (after_answer so_far (accept_event bytes answer) answer)
usage_answered naming bytes start so_far (Err fault) is so = tt
usage_answered naming bytes start so_far (Ok given) is so =
    let made : List Event = listed (accept_event bytes (Ok given)) in
    record {
      answered = made_more naming made so_far.events start
          (accept_event-answered naming bytes (after_all so_far.events start) (Ok given) is)
          so.answered;
      book = ap (after_any (accept_event bytes (Ok given))) so.book
          ∙ book_listed (accept_event bytes (Ok given)) so_far.events start;
    }

-- one record, however usage records are answered
record_answered : (naming : Naming) (was : Bool) (bytes : List ℕ) (class : Class) (start : Book)
    (so_far : Imported) → IsAnsweredSoFar naming start so_far
    → StaysAnswered naming start (handle_by (answers_of was naming) bytes so_far class)
record_answered naming true bytes Usage start so_far so = tt
record_answered naming false bytes Usage start so_far so =
    let answer : Result Accepted LedgerFault = accept_answer naming so_far.book bytes in
    usage_answered naming bytes start so_far answer
    (ap (λ book. accept_answer naming book bytes) (sym so.book)) so
record_answered naming was bytes class start so_far so =
    record { answered = so.answered; book = so.book }

-- many records
all_answered : (naming : Naming) (was : Bool) (stop : Stop) (records : List (List ℕ)) (start : Book)
    (so_far : Imported) → IsAnsweredSoFar naming start so_far
    → AreMadeOf naming start (handle_all (answers_of was naming) stop records so_far).events
all_answered naming was stop [] start so_far so = so.answered
all_answered naming was stop (bytes ∷ rest) start so_far so =
    let later : Imported → Imported = handle_all (answers_of was naming) stop rest in
    elim (handle (answers_of was naming) bytes so_far) as (λ handled.
    StaysAnswered naming start handled
    → AreMadeOf naming start (continue_with later so_far handled).events) [
      | Ok next ↦ λ more. all_answered naming was stop rest start next more
      | Err fault ↦ λ none. so.answered
    ] (record_answered naming was bytes (class_of bytes) start so_far so)

-- an import from its start
from_start : (naming : Naming) (was : Bool) (stop : Stop) (records : List (List ℕ)) (start : Book)
    (events : List Event)
    → (handle_all (answers_of was naming) stop records (nothing_imported start)).events ≡ events
    → AreMadeOf naming start events
from_start naming was stop records start events made =
    subst (AreMadeOf naming start) made
    (all_answered naming was stop records start (nothing_imported start)
    (record { answered = tt; book = refl }))

-- an import
pub import_answered : (naming : Naming) (stop : Stop) (records : List (List ℕ))
    (told : Receipt) → MakesAnswered naming (Handles naming stop records told)
import_answered naming stop records told start was events is (whole same so) =
    from_start naming was stop records start events so.events
import_answered naming stop records told start was events is (out_of_memory count same so) =
    from_start naming was (Ledger Memory) (take count records) start events so.events
import_answered naming stop records told start was events is
    (store_failed count kept open_before is_so within either stopped so made) =
    from_start naming false (Ledger Store) (take kept records) start events made

-- ---- with what an import says

-- events of an import: none is a ruling
abbrev pub AreOfImport : List Event → Type 0
AreOfImport [] = Unit {0}
AreOfImport (PeriodClosed said day ∷ older) = ⊥
AreOfImport (RulingGiven said ruling ∷ older) = ⊥
AreOfImport (event ∷ older) = AreOfImport older

-- both parts are
of_both : (late early : List Event) → AreOfImport late → AreOfImport early
    → AreOfImport (late ++ early)
of_both [] early of_late of_early = of_early
of_both (RecordKept bytes ∷ late) early of_late of_early = of_both late early of_late of_early
of_both (ImportBegun note ∷ late) early of_late of_early = of_both late early of_late of_early
of_both (ImportRead reading ∷ late) early of_late of_early = of_both late early of_late of_early
of_both (ImportEnded ending ∷ late) early of_late of_early = of_both late early of_late of_early
of_both (PeriodClosed said day ∷ late) early of_late of_early = absurd of_late
of_both (RulingGiven said ruling ∷ late) early of_late of_early = absurd of_late

of_records : (records : List (List ℕ)) → AreOfImport (map (λ bytes. RecordKept bytes) records)
of_records [] = tt
of_records (bytes ∷ later) = of_records later

of_change : (note : Note) (begun : Bool) (reading : Reading) (records : List (List ℕ))
    → AreOfImport (told note begun reading (map (λ bytes. RecordKept bytes) records))
of_change note begun reading [] = tt
of_change note true reading (bytes ∷ later) =
    of_both (map (λ bytes. RecordKept bytes) (bytes ∷ later)) [] (of_records (bytes ∷ later)) tt
of_change note false reading (bytes ∷ later) =
    of_both (map (λ bytes. RecordKept bytes) (bytes ∷ later)) (ImportBegun note ∷ [])
    (of_records (bytes ∷ later)) tt

of_changes : (note : Note) (portions : List Portion) → AreOfImport (import_events note portions)
of_changes note [] = tt
of_changes note (portion ∷ earlier) =
    let begun = is_some (told_so_far earlier) in
    of_both (told note begun portion.reading (map (λ bytes. RecordKept bytes) portion.kept))
    (import_events note earlier) (of_change note begun portion.reading portion.kept)
    (of_changes note earlier)

of_end : (ended : Option Stop) (events : List Event) → AreOfImport events
    → AreOfImport (with_end ended events)
of_end None events of = of
of_end (Some stop) events of = of

-- those of records alone are records
kept_of : (events : List Event) → AreOfImport events → AreKept (without_notes events)
kept_of [] of = tt
kept_of (RecordKept bytes ∷ older) of = kept_of older of
kept_of (ImportBegun note ∷ older) of = kept_of older of
kept_of (ImportRead reading ∷ older) of = kept_of older of
kept_of (ImportEnded ending ∷ older) of = kept_of older of
kept_of (PeriodClosed said day ∷ older) of = absurd of
kept_of (RulingGiven said ruling ∷ older) of = absurd of

-- but for the journal they leave the same book
pub same_apart : (events : List Event) (before : Book) → AreKept (without_notes events)
    → unjournaled (after_all events before)
    ≡ unjournaled (after_all (without_notes events) before)
same_apart events before kept =
    journal_stands_apart before events
    ∙ ap (λ events. after_all events (unjournaled before)) (sym (kept_alone (without_notes events) kept))
    ∙ sym (journal_stands_apart before (without_notes events))

-- so what answers made the records of an import, made all of it
made_too : (naming : Naming) (before : Book) (events : List Event) → AreOfImport events
    → AreMadeOf naming before (without_notes events) → AreMadeOf naming before events
made_too naming before [] of made = tt
made_too naming before (RecordKept bytes ∷ older) of made = (
  ap (λ (book : Book). accept_answer naming book bytes) (same_apart older before (kept_of older of))
      ∙ made.0,
  made_too naming before older of made.1,
)
made_too naming before (ImportBegun note ∷ older) of made = (tt, made_too naming before older of made)
made_too naming before (ImportRead reading ∷ older) of made =
    (tt, made_too naming before older of made)
made_too naming before (ImportEnded ending ∷ older) of made =
    (tt, made_too naming before older of made)
made_too naming before (PeriodClosed said day ∷ older) of made = absurd of
made_too naming before (RulingGiven said ruling ∷ older) of made = absurd of

-- the events of an import with what it says
pub says_of : (import : Option Note) (begun : Bool) (ended : Option Stop) (naming : Naming)
    (layout : Layout) (bytes : List ℕ) (before : Book) (made : List Event)
    → Says import begun ended naming layout bytes before made → AreKept (without_notes made)
    → AreOfImport made
says_of None begun ended naming layout bytes before made says kept =
    of_kept made (subst AreKept says kept)
  where
    of_kept : (events : List Event) → AreKept events → AreOfImport events
    of_kept [] kept = tt
    of_kept (RecordKept bytes ∷ older) kept = of_kept older kept
    of_kept (event ∷ older) kept = absurd kept
says_of (Some note) begun ended naming layout bytes before made says kept =
    subst AreOfImport (sym says.events)
    (of_end ended (import_events note says.portions) (of_changes note says.portions))

pub imports_answered : (import : Option Note) (naming : Naming) (layout : Layout)
    (cut : Option Stop) (bytes : List ℕ) (told : Receipt)
    → MakesAnswered naming (ImportsOf import naming layout cut bytes told)
imports_answered import naming layout cut bytes told start was made is of =
    let dump = front layout bytes in
    let stop = stop_after cut dump in
    let kept = handles_kept naming stop dump.records told was start (without_notes made) is of.booked in
    let says = of.says in
    made_too naming start made
    (says_of import says.begun says.ended naming layout bytes start made says.says kept)
    (import_answered naming stop dump.records told start was (without_notes made) is of.booked)
