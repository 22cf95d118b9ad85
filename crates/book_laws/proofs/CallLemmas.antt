-- Calls on one ledger, one after another: their work, and the events that they make.
use Rattle.std.proofs.Common.{false, ℕ, List, [], ◌∷◌, Result, Ok, Err, map, refl, sym, subst}
use Rattle.std.proofs.Common.{Option, Vec, Global, option_map}
use Rattle.book_model.specs.declared.answer.Accepted.{Accepted}
use Rattle.book_model.specs.MadeByCalls.{AreMadeOf}
use Rattle.book_model.specs.declared.fault.LedgerFault.TheVariants.{Store}
use Rattle.book_model.specs.declared.note.Share.{Share}
use Rattle.book_model.specs.Words.{accept_answer, Book, new_book, dispute_shown}
use Rattle.book_model.specs.Words.{arrival_outcome, entry_outcome, entry_shown}
use Rattle.book_model.specs.Words.{book_after, Outcome, accept_outcome, charges_outcome}
use Rattle.book_model.specs.Words.{adjustments_outcome, disputes_outcome, periods_outcome, Naming}
use Rattle.book_model.specs.Words.{dispute_outcome, ended_outcome, line_period_outcome}
use Rattle.book_model.specs.Words.{next_detail_outcome, credit_given_outcome, credit_shown}
use Rattle.book_model.specs.Words.{record_outcome, ruling_outcome}
use Rattle.book_model.specs.Words.{ruling_shown, trail_outcome, trail_shown, what_if_outcome}
use Rattle.book_core.specs.Words.{Calls, listed, Seen, IsOpenAt, Accepts, TakesOf, first_of}
use Rattle.book_core.specs.Words.{IsTransition, MakesAnswered}
use Rattle.book_core.proofs.FollowLemmas.{then_answered, calls_answered, none_answered}
use Rattle.book_core.proofs.FollowLemmas.{accept_event-answered, ruling_answered, works_answered}
use Rattle.book_core.proofs.SubmissionLemmas.{of_answered}
use Rattle.book_core.proofs.TransitionLemmas.{no_work, work_then}
use Rattle.book_lists.proofs.ReadingLemmas.{IsReading}
use Rattle.office.specs.Laws.{IsStillOpen}
use Rattle.office.proofs.ChoiceLemmas.{choices_answered}
use Rattle.office.proofs.LawLemmas.{asks_answered}
use Rattle.office.proofs.LeavingLemmas.{Leaves}
use Rattle.office.proofs.RunLemmas.{runs_answered}
use Rattle.office.proofs.WithholdingLemmas.{so_answered}
use Rattle.book_core.proofs.FollowLemmas.{history_goes_on}
use Rattle.book_http.proofs.LawLemmas.{request_answered}
use Rattle.book_laws.specs.CallLaws.{CallsFollowHistory}
use Rattle.book_laws.specs.Calls.{Call, Request, RunRequests, AcceptRecord, ReadCharges}
use Rattle.book_laws.specs.Calls.{AcceptRecords, ChooseEach, MakeRuling, HttpDetails, HttpRequest}
use Rattle.book_laws.specs.Calls.{EndImport, ReadAdjustments, ReadArrival, ReadCredit, ReadEntry}
use Rattle.book_laws.specs.Calls.{ReadLinePeriod, WithholdEach}
use Rattle.book_laws.specs.Calls.{WithholdWorks}
use Rattle.book_laws.specs.Calls.{ReadDisputes, ReadPeriods, ReadChargesUnder, ReadDetail}
use Rattle.book_laws.specs.Calls.{ReadDispute, ReadRecord, ReadRuling, ReadTrail, Step, AreDone}
use Rattle.book_laws.specs.Calls.{calls_of, ledger_after_calls, work_of, works_of}
use Rattle.book_laws.proofs.Words.{LedgerFault, after_all-append, work_leaves}

-- what is read makes none
readings_answered : {V A : Type 0} (naming : Naming) (view : V → A) (outcome : Book → Outcome A)
    (result : Result V LedgerFault) → IsReading outcome
    → MakesAnswered naming (Calls view outcome result)
readings_answered naming view outcome result none =
    calls_answered naming view outcome result (λ book.
    subst (λ event. AreMadeOf naming book (listed event)) (sym (none book)) tt)

-- a record makes only an event that the books answered
record_answered : (naming : Naming) (bytes : List ℕ) (answer : Result Accepted LedgerFault)
    → MakesAnswered naming
    (Calls (λ (accepted : Accepted). accepted) (accept_outcome naming bytes) answer)
record_answered naming bytes answer =
    calls_answered naming (λ (accepted : Accepted). accepted) (accept_outcome naming bytes) answer
    (λ book. accept_event-answered naming bytes book (accept_answer naming book bytes) refl)

-- and so do records one after another,
accepts_answered : (naming : Naming) (records : List (List ℕ)) (answers : List Accepted)
    → MakesAnswered naming (Accepts naming records answers)
accepts_answered naming records [] = none_answered naming
accepts_answered naming [] (answer ∷ later) = λ book was events is never. absurd never
accepts_answered naming (bytes ∷ rest) (answer ∷ later) =
    then_answered naming
    (Calls (λ (accepted : Accepted). accepted) (accept_outcome naming bytes) (Ok answer))
    (Accepts naming rest later) (record_answered naming bytes (Ok answer))
    (accepts_answered naming rest later)

-- also several together, with what their import says
takes_answered : (naming : Naming) (import : Option Share) (records : List (List ℕ))
    (answers : Result (Vec Accepted Global) LedgerFault)
    → MakesAnswered naming (TakesOf naming import records answers)
takes_answered naming import records (Ok answers) =
    of_answered naming import records answers.items
    (accepts_answered naming records answers.items)
takes_answered naming import records (Err Store) = λ book was events is first.
    of_answered naming import records first.answers (accepts_answered naming records first.answers)
    book false events false first.kept
takes_answered naming import records (Err fault) =
    record_answered naming (first_of records) (Err fault)

-- each call makes only events that the books answered
call_answered : (naming : Naming) (call : Call) → MakesAnswered naming (work_of naming call)
call_answered naming (Request asked dump told) = asks_answered naming asked dump told
call_answered naming (RunRequests requests answers) = runs_answered naming requests answers
call_answered naming (ChooseEach said withheld names answers refusal) =
    choices_answered said withheld naming names answers refusal
call_answered naming (HttpRequest bytes reply) = request_answered naming bytes reply
call_answered naming (HttpDetails bytes held holds served) = λ book was events is made.
    request_answered naming bytes made.reply book was events was made.answer.0
call_answered naming (MakeRuling said ruling answer) =
    ruling_answered naming (λ ruled. ruled) said ruling answer
call_answered naming (AcceptRecord bytes answer) = record_answered naming bytes answer
call_answered naming (AcceptRecords import records answers) =
    takes_answered naming import records answers
call_answered naming (EndImport stop answer) =
    calls_answered naming (λ (done : Unit {0}). done) (ended_outcome stop) answer (λ book. (tt, tt))
call_answered naming (WithholdWorks said names told) = works_answered naming said names told
call_answered naming (WithholdEach said names counts refusal) =
    so_answered said naming names counts refusal
call_answered naming (ReadCharges period answer) =
    readings_answered naming (λ rows. rows.items) (charges_outcome period) answer (λ book. refl)
call_answered naming (ReadChargesUnder period terms answer) =
    readings_answered naming (λ rows. rows.items) (what_if_outcome period terms) answer
    (λ book. refl)
call_answered naming (ReadAdjustments period answer) =
    readings_answered naming (λ lines. lines.items) (adjustments_outcome naming period) answer
    (λ book. refl)
call_answered naming (ReadLinePeriod number line answer) =
    readings_answered naming (λ period. period) (line_period_outcome naming number line) answer
    (λ book. refl)
call_answered naming (ReadDetail period centre last answer) =
    readings_answered naming (λ found. found) (next_detail_outcome naming period centre last) answer
    (λ book. refl)
call_answered naming (ReadDisputes answer) =
    readings_answered naming (λ found. map dispute_shown found.items) (disputes_outcome naming)
    answer (λ book. refl)
call_answered naming (ReadDispute from answer) =
    readings_answered naming (λ found. option_map dispute_shown found) (dispute_outcome naming from)
    answer (λ book. refl)
call_answered naming (ReadPeriods answer) =
    readings_answered naming (λ days. days.items) periods_outcome answer (λ book. refl)
call_answered naming (ReadRuling number answer) =
    readings_answered naming (λ found. option_map ruling_shown found) (ruling_outcome naming number)
    answer (λ book. refl)
call_answered naming (ReadCredit number answer) =
    readings_answered naming (λ found. option_map credit_shown found) (credit_given_outcome number)
    answer (λ book. refl)
call_answered naming (ReadEntry number answer) =
    readings_answered naming (λ found. option_map entry_shown found) (entry_outcome naming number)
    answer (λ book. refl)
call_answered naming (ReadArrival from answer) =
    readings_answered naming (λ found. found) (arrival_outcome naming from) answer (λ book. refl)
call_answered naming (ReadRecord name answer) =
    readings_answered naming (λ bytes. bytes.items) (record_outcome naming name) answer
    (λ book. refl)
call_answered naming (ReadTrail name answer) =
    readings_answered naming trail_shown (trail_outcome naming name) answer (λ book. refl)

-- so do all of them
pub calls_are_answered : (naming : Naming) (calls : List Call)
    → MakesAnswered naming (works_of naming calls)
calls_are_answered naming [] = none_answered naming
calls_are_answered naming (call ∷ later) =
    then_answered naming (work_of naming call) (works_of naming later) (call_answered naming call)
    (calls_are_answered naming later)

-- calls that were done are one work
pub done_is_work : {L : Type 0} (seen : L → Seen) (before : L) (steps : List (Step L))
    → AreDone seen before steps
    → IsTransition (seen before) (seen (ledger_after_calls before steps))
    (works_of (seen before).naming (calls_of steps))
done_is_work seen before [] done = no_work (seen before)
done_is_work seen before (step ∷ later) done =
    let last : Seen = seen (ledger_after_calls step.after later) in
    work_then (seen before) (seen step.after) last (work_of (seen before).naming step.call)
    (works_of (seen before).naming (calls_of later)) done.0
    (subst (λ naming. IsTransition (seen step.after) last (works_of naming (calls_of later)))
    done.0.naming (done_is_work seen step.after later done.1))

-- calls on any book leave what they make of it
pub calls_leave : {L : Type 0} (seen : L → Seen) (naming : Naming) (start : Book) (before : L)
    (steps : List (Step L)) → IsOpenAt naming start (seen before) → AreDone seen before steps
    → IsStillOpen (seen (ledger_after_calls before steps))
    → Leaves naming (works_of naming (calls_of steps)) start
    (seen (ledger_after_calls before steps))
calls_leave seen naming start before steps opened done still =
    let after : Seen = seen (ledger_after_calls before steps) in
    let work : IsTransition (seen before) after (works_of naming (calls_of steps)) =
    subst (λ naming. IsTransition (seen before) after (works_of naming (calls_of steps))) opened.naming
    (done_is_work seen before steps done) in
    work_leaves opened work still

-- so calls on the books of a history leave those of one that goes on with it
pub calls_follow_history : {L : Type 0} (seen : L → Seen) → CallsFollowHistory seen
calls_follow_history seen naming start before steps answered opened done still =
    let after : Seen = seen (ledger_after_calls before steps) in
    let left = calls_leave seen naming (book_after start) before steps opened done still in
    record {
      events = left.events;
      made = left.made;
      answered = history_goes_on naming left.events start
          (calls_are_answered naming (calls_of steps) (book_after start) false left.events false
          left.made) answered;
      left = subst (λ book. IsOpenAt naming book after)
          (sym (after_all-append left.events start new_book)) left.left;
    }
