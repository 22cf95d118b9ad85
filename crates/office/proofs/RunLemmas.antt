-- Requests that bring their dumps, one after another: their work, and the events that they make.
use Rattle.std.proofs.Common.{◌≡◌, ◌∙◌, Bool, false, ℕ, List, [], ◌∷◌, ◌++◌, None, Option, Some}
use Rattle.std.proofs.Common.{Result, refl, sym, ap, subst, take}
use Rattle.smf_frames.specs.declared.dump.Layout.{Layout}
use Rattle.book_model.specs.JournalLaws.{unjournaled, without_notes}
use Rattle.book_model.specs.Words.{front, Naming, Book, Event, accept_outcome, after_all}
use Rattle.book_model.specs.Words.{note_given}
use Rattle.book_model.specs.declared.fault.LedgerFault.{LedgerFault}
use Rattle.book_model.specs.declared.fault.LedgerFault.TheVariants.{Memory, Store}
use Rattle.book_model.specs.declared.note.Note.{Note as GivenNote}
use Rattle.book_model.specs.declared.note.Stop.{Stop}
use Rattle.book_model.specs.declared.note.Stop.TheVariants.{Ledger}
use Rattle.book_model.proofs.JournalLemmas.{journal_stands_apart}
use Rattle.book_core.specs.Follow.{MakesAnswered}
use Rattle.book_core.specs.Transition.{NoEvent, Then}
use Rattle.book_core.proofs.FollowLemmas.{none_answered, then_answered}
use Rattle.book_core.proofs.ThenLemmas.{last_two, next_as, nothing_more, nothing_then}
use Rattle.book_core.proofs.TransitionLemmas.{Implies}
use Rattle.book_import.specs.Dumps.{stop_after}
use Rattle.book_import.specs.Handled.{Answering, answers_of, handle_all, nothing_imported}
use Rattle.book_import.specs.ImportEntries.{ImportsOf}
use Rattle.book_import.specs.Imports.{GivesReceipt, Handles, out_of_memory, store_failed, whole}
use Rattle.book_import.specs.Repeats.{IsUnhindered}
use Rattle.book_import.specs.declared.receipt.Receipt.{Receipt}
use Rattle.book_import.proofs.ApartLemmas.{ReadNone, from_apart, reads_none}
use Rattle.book_import.proofs.PiecewiseLemmas.{without_note}
use Rattle.book_import.proofs.RepeatLemmas.{is_whole, twice_is_once}
use Rattle.book_import.proofs.SayingLemmas.{notes-append}
use Rattle.office.specs.declared.request.Asked.{Asked}
use Rattle.office.specs.declared.request.Answer.{Answer}
use Rattle.office.specs.Repeats.{RunTwiceIsOnce, but_for_said}
use Rattle.office.specs.Requests.{response_by}
use Rattle.office.specs.Runs.{AsksWithoutReader, Runs, dump_here}
use Rattle.office.proofs.LawLemmas.{asks_answered}

-- requests that were answered, and one more
runs_more : (naming : Naming) (requests : List Asked) (answers : List (Result Answer LedgerFault))
    (asked : Asked) (answer : Result Answer LedgerFault)
    → Implies (Then (Runs naming requests answers) (AsksWithoutReader naming asked answer))
    (Runs naming (requests ++ asked ∷ []) (answers ++ answer ∷ []))
runs_more naming [] [] asked answer was before events is both =
    nothing_more (AsksWithoutReader naming asked answer) was before events is
    (nothing_then (AsksWithoutReader naming asked answer) was before events is both)
runs_more naming [] (told ∷ answers) asked answer was before events is both = absurd both.first
runs_more naming (first ∷ requests) [] asked answer was before events is both = absurd both.first
runs_more naming (first ∷ requests) (told ∷ answers) asked answer was before events is both =
    next_as (runs_more naming requests answers asked answer) was before events is
    (last_two was before events is both)

-- nothing was asked yet
pub none_run : (naming : Naming) (told : List (Result Answer LedgerFault)) → told ≡ []
    → (was : Bool) (before : Book) (events : List Event) (is : Bool) → NoEvent was before events is
    → Runs naming [] told was before events is
none_run naming told so was before events is none =
    subst (λ told. Runs naming [] told was before events is) (sym so) none

-- one more request was answered
pub one_more_run : (naming : Naming) (requests all : List Asked)
    (answers told : List (Result Answer LedgerFault)) (asked : Asked)
    (answer : Result Answer LedgerFault) → requests ++ asked ∷ [] ≡ all
    → told ≡ answers ++ answer ∷ []
    → (was : Bool) (before : Book) (events : List Event) (is : Bool)
    → Then (Runs naming requests answers) (AsksWithoutReader naming asked answer) was before events
    is
    → Runs naming all told was before events is
one_more_run naming requests all answers told asked answer more so was before events is both =
    subst (λ all. Runs naming all told was before events is) more
    (subst (λ told. Runs naming (requests ++ asked ∷ []) told was before events is) (sym so)
    (runs_more naming requests answers asked answer was before events is both))

-- requests make only events that the books answered
pub runs_answered : (naming : Naming) (requests : List Asked)
    (answers : List (Result Answer LedgerFault)) → MakesAnswered naming
    (Runs naming requests answers)
runs_answered naming [] [] = none_answered naming
runs_answered naming [] (answer ∷ answers) = λ book was events is never. absurd never
runs_answered naming (asked ∷ requests) [] = λ book was events is never. absurd never
runs_answered naming (asked ∷ requests) (answer ∷ answers) =
    then_answered naming (AsksWithoutReader naming asked answer) (Runs naming requests answers)
    (asks_answered naming asked (dump_here asked) (response_by answer))
    (runs_answered naming requests answers)

-- ---- the same import twice in a row

-- what records come to is the same for books without their journal
comes_alone : (answers : Answering) → ReadNone answers → (stop : Stop) (records : List (List ℕ))
    (before : Book) (told : Receipt) (events : List Event)
    → GivesReceipt (handle_all answers stop records (nothing_imported before)) told events
    → GivesReceipt (handle_all answers stop records (nothing_imported (unjournaled before))) told
    events
comes_alone answers none stop records before told events gives =
    let same = from_apart answers none stop records before in
    record { receipt = sym same.receipt ∙ gives.receipt; events = sym same.events ∙ gives.events }

-- so is what becomes of them
pub handled_alone : (naming : Naming) (stop : Stop) (records : List (List ℕ)) (told : Receipt)
    (was : Bool) (before : Book) (events : List Event) (is : Bool)
    → Handles naming stop records told was before events is
    → Handles naming stop records told was (unjournaled before) events is
handled_alone naming stop records told was before events is (whole same gives) =
    whole same
    (comes_alone (answers_of was naming) (reads_none was naming) stop records before told events
    gives)
handled_alone naming stop records told was before events is (out_of_memory count same gives) =
    out_of_memory count same
    (comes_alone (answers_of was naming) (reads_none was naming) (Ledger Memory)
    (take count records)
    before told events gives)
handled_alone naming stop records told was before events is
    (store_failed count kept open_before reopen within either stopped so made) =
    let answers = accept_outcome naming in
    let first = from_apart answers (reads_none false naming) (Ledger Store) (take count records)
    before in
    let all = from_apart answers (reads_none false naming) (Ledger Store) (take kept records)
    before in
    store_failed count kept open_before reopen within either stopped (sym first.receipt ∙ so)
    (sym all.events ∙ made)

-- the books that two parts of events leave, but for their journal
pub both_apart : (before : Book) (first second : List Event)
    → unjournaled (after_all (second ++ first) before)
    ≡ after_all (without_notes second ++ without_notes first) (unjournaled before)
both_apart before first second =
    journal_stands_apart before (second ++ first)
    ∙ ap (λ events. after_all events (unjournaled before)) (notes-append second first)

-- records are handled after events as by books without a journal
pub next_alone : (naming : Naming) (stop : Stop) (records : List (List ℕ)) (told : Receipt)
    (was : Bool) (before : Book) (first events : List Event) (is : Bool)
    → Handles naming stop records told was (unjournaled (after_all first before)) events is
    → Handles naming stop records told was (after_all (without_notes first) (unjournaled before))
    events is
next_alone naming stop records told was before first events is handled =
    subst (λ book. Handles naming stop records told was book events is)
    (journal_stands_apart before first) handled

-- the second of two imports leaves the books of the first, but for what they say of themselves
second_leads : (said : Option GivenNote) (naming : Naming) (layout : Layout) (bytes : List ℕ)
    (once twice : Receipt) (before : Book) (first second : List Event) (between is : Bool)
    → ImportsOf (note_given said) naming layout None bytes once false before first between
    → ImportsOf (note_given said) naming layout None bytes twice between (after_all first before)
    second is
    → IsUnhindered once
    → but_for_said said (after_all (second ++ first) before)
    ≡ but_for_said said (after_all first before)
second_leads None naming layout bytes once twice before first second between is imports again
    unhindered =
    let dump = front layout bytes in
    let stop = stop_after None dump in
    twice_is_once naming before stop stop dump.records once twice first second between is
    (without_note naming layout None bytes once false before first between imports) unhindered
    (without_note naming layout None bytes twice between (after_all first before) second is again)
second_leads (Some note) naming layout bytes once twice before first second between is imports again
    unhindered =
    let dump = front layout bytes in
    let stop = stop_after None dump in
    let plain : Book = unjournaled before in
    let next = next_alone naming stop dump.records twice between before first
    (without_notes second) is
    (handled_alone naming stop dump.records twice between (after_all first before)
    (without_notes second) is again.booked) in
    let once_is = twice_is_once naming plain stop stop dump.records once twice (without_notes first)
    (without_notes second) between is
    (handled_alone naming stop dump.records once false before (without_notes first) between
    imports.booked) unhindered next in
    both_apart before first second ∙ once_is ∙ sym (journal_stands_apart before first)

-- the law of the same import twice in a row
pub run_twice_is_once : RunTwiceIsOnce
run_twice_is_once naming before layout bytes said once twice events is ran unhindered =
    let dump = front layout bytes.items in
    let again = ran.next in
    let first : ImportsOf (note_given said) naming layout None bytes.items once false before ran.early
    ran.between = ran.first in
    let all = is_whole naming (stop_after None dump) dump.records before once
    (without_notes ran.early) ran.between first.booked unhindered in
    let second : ImportsOf (note_given said) naming layout None bytes.items twice ran.between
    (after_all ran.early before) again.early again.between = again.first in
    let late : ran.late ≡ again.early =
    again.all ∙ ap (λ late. late ++ again.early) again.next.none in
    record {
      events = ran.early;
      made = record {
        between = false;
        early = ran.early;
        late = [];
        first = subst (λ b. ImportsOf (note_given said) naming layout None bytes.items once false
            before ran.early b) all.stays_open first;
        next = record { none = refl; same = refl };
        all = refl;
      };
      leads = ap (λ events. but_for_said said (after_all events before))
          (ran.all ∙ ap (λ late. late ++ ran.early) late)
          ∙ second_leads said naming layout bytes.items once twice before ran.early again.early
          ran.between again.between first second unhindered;
    }
