-- Requests, one after the other, and the history that they make.
use Rattle.std.proofs.Common.{◌≡◌, ◌∙◌, Bool, true, false, ℕ, List, [], ◌∷◌, ◌++◌, Result, Ok, Err}
use Rattle.std.proofs.Common.{Option, inr, refl, sym, ap, subst, true≢false}
use Rattle.std.specs.Prelude.{string_bytes}
use Rattle.book_model.specs.MadeByCalls.{AreMadeOf}
use Rattle.book_model.specs.declared.fault.LedgerFault.{LedgerFault}
use Rattle.book_model.specs.declared.fault.LedgerFault.TheVariants.{Memory, Store, Reopen}
use Rattle.book_model.specs.Words.{front, IsMadeByCalls, Book, new_book, Event, after_all, book_after}
use Rattle.book_model.specs.JournalLaws.{without_notes}
use Rattle.book_model.specs.Words.{Note, book_of, Outcome, note_given, rule_outcome, Naming}
use Rattle.book_model.proofs.OrderLemmas.{order_is_free}
use Rattle.book_model.proofs.StepLemmas.{books_follow_history}
use Rattle.book_core.specs.Calls.{Calls, listed}
use Rattle.book_core.specs.Ledgers.{Seen, IsOpenAt}
use Rattle.book_core.proofs.FollowLemmas.{calls_answered, ruling_answered}
use Rattle.book_core.specs.Follow.{MakesAnswered}
use Rattle.book_core.proofs.TransitionLemmas.{after_all-append}
use Rattle.book_import.specs.Dumps.{stop_after}
use Rattle.book_core.proofs.FollowLemmas.{history_goes_on}
use Rattle.book_import.proofs.RepeatLemmas.{is_whole}
use Rattle.book_import.proofs.EventLemmas.{imports_answered}
use Rattle.book_reports.specs.declared.report.Report as report
use Rattle.book_reports.specs.declared.what_if.WhatIf as what_if
use Rattle.book_reports.specs.BookTexts.{report_outcome}
use Rattle.book_reports.specs.WhatIfTexts.{what_if_report}
use Rattle.office.specs.declared.request.Asked.{Asked}
use Rattle.office.specs.declared.request.Asked.TheVariants.{Import, ImportBytes, Report, Rule}
use Rattle.office.specs.declared.request.Asked.TheVariants.{WhatIf}
use Rattle.office.specs.Requests.{Dump, Response, Ruling, Count, Text, response_by, response_outcome}
use Rattle.office.specs.Requests.{Receives, Asks, ruling_of}
use Rattle.office.specs.Outcomes.{AskedOutcome, events_by, asked_outcome_by, import_asked_outcome, asked_outcome, is_hindering, is_hindered}
use Rattle.office.specs.Laws.{AnswersAreFree, AnswersFollowBook, AnswersFollowHistory, AreAnswered}
use Rattle.office.specs.Laws.{AreAnsweredAfter, AreAnsweredOf, DiffersAsAllowed, Exchange}
use Rattle.office.specs.Laws.{IsAnsweredOf, IsStillOpen, but_for_entries, ledger_after}
use Rattle.office.proofs.LeavingLemmas.{work_leaves, open_earlier}

-- the event of an outcome is answered, if calls with it make only answered events
event_answered : {A : Type 0} (naming : Naming) (outcome : Book → Outcome A)
    → MakesAnswered naming (Calls {V = A} (λ value. value) outcome (Err Store))
    → (book : Book) → AreMadeOf naming book (listed (outcome book).event)
event_answered naming outcome makes book =
    makes book false (listed (outcome book).event) true
    (record { makes = inr refl; reopens = record { reopen = refl; store = refl } })

told_answered : {A : Type 0} (naming : Naming) (say : A → Response) (outcome : Book → Outcome A)
    (told : Result Response LedgerFault)
    → MakesAnswered naming (Calls {V = A} (λ value. value) outcome (Err Store))
    → MakesAnswered naming (Calls (λ told. told) (response_outcome say outcome) told)
told_answered naming say outcome told makes =
    calls_answered naming (λ told. told) (response_outcome say outcome) told
    (event_answered naming outcome makes)

-- a report is no event
report_answered : (naming : Naming) (report : report.Report) (told : Result Response LedgerFault)
    → MakesAnswered naming (Calls (λ told. told) (response_outcome Text
    (report_outcome naming report)) told)
report_answered naming report told =
    calls_answered naming (λ told. told) (response_outcome Text (report_outcome naming report)) told
    (λ book. tt)

-- nor is what a period would have cost by another tariff
what_if_answered : (naming : Naming) (asked : what_if.WhatIf) (tariff : List ℕ)
    (told : Result Response LedgerFault)
    → MakesAnswered naming
    (Calls (λ told. told) (response_outcome Text (what_if_report asked tariff)) told)
what_if_answered naming asked tariff told =
    calls_answered naming (λ told. told) (response_outcome Text (what_if_report asked tariff)) told
    (λ book. tt)

pub receives_answered : (said : Option Note) (naming : Naming) (dump : Dump)
    (told : Result Response LedgerFault) → MakesAnswered naming (Receives said naming dump told)
receives_answered said naming dump (Ok (Count receipt)) =
    imports_answered said naming dump.layout dump.cut dump.bytes receipt
receives_answered said naming dump (Ok (Ruling ruled)) = λ book was events is never. absurd never
receives_answered said naming dump (Ok (Text text)) = λ book was events is never. absurd never
receives_answered said naming dump (Err fault) = λ book was events is never. absurd never

-- a request makes only events that the books answered
pub asks_answered : (naming : Naming) (asked : Asked) (dump : Dump)
    (told : Result Response LedgerFault)
    → MakesAnswered naming (Asks naming asked dump told)
asks_answered naming (Rule ruling said) dump told =
    told_answered naming Ruling (rule_outcome naming (note_given said) (ruling_of ruling)) told
    (ruling_answered naming (λ value. value) (note_given said) (ruling_of ruling) (Err Store))
asks_answered naming (Import layout said) dump told =
    receives_answered (note_given said) naming dump told
asks_answered naming (ImportBytes layout bytes said) dump told =
    receives_answered (note_given said) naming dump told
asks_answered naming (Report report) dump told = report_answered naming report told
asks_answered naming (WhatIf report tariff) dump told =
    what_if_answered naming report (string_bytes tariff) told

same_done : (outcome : Book → Outcome Response) (told : Result Response LedgerFault) (book : Book)
    (events : List Event) → (outcome book).answer ≡ told
    → events ≡ events_by told (outcome book).event
    → asked_outcome_by (outcome book) ≡ record { told = told; events = events }
same_done outcome told book events is made =
    let events_are = ap (λ told. events_by told (outcome book).event) is ∙ sym made in
    λ i. record { told = is i; events = events_are i }

-- a call on open books said what the definitions say, unless memory or the store hindered it
calls_done : (outcome : Book → Outcome Response) (told : Result Response LedgerFault) (book : Book)
    (events : List Event) (is : Bool) → Calls (λ told. told) outcome told false book events is
    → is_hindered told ≡ false
    → asked_outcome_by (outcome book) ≡ record { told = told; events = events }
calls_done outcome (Ok value) book events is called free =
    same_done outcome (Ok value) book events called.makes.0 called.makes.1
calls_done outcome (Err Memory) book events is called free = cc free
calls_done outcome (Err Store) book events is called free = cc free
calls_done outcome (Err Reopen) book events is called free = let no = called.reopens.reopen in cc no
calls_done outcome (Err fault) book events is called free =
    same_done outcome (Err fault) book events called.makes.0 called.makes.1

not_both : (told : Bool) → told ≡ true → told ≡ false → ⊥
not_both told is_so is_not = cc

receives_done : (said : Option Note) (naming : Naming) (dump : Dump)
    (told : Result Response LedgerFault) (book : Book) (events : List Event) (is : Bool)
    → Receives said naming dump told false book events is → is_hindered told ≡ false
    → import_asked_outcome naming dump book ≡ record { told = told; events = without_notes events }
receives_done said naming dump (Ok (Count receipt)) book events is made free =
    let found = front dump.layout dump.bytes in
    let all = is_whole naming (stop_after dump.cut found) found.records book receipt
    (without_notes events) is made.booked (record {
      memory = λ same. not_both (is_hindering receipt.stop) (ap is_hindering same) free;
      store = λ same. not_both (is_hindering receipt.stop) (ap is_hindering same) free;
    }) in
    λ i. record { told = Ok (Count (all.told.receipt i)); events = all.told.events i }
receives_done said naming dump (Ok (Ruling ruled)) book events is made free = absurd made
receives_done said naming dump (Ok (Text text)) book events is made free = absurd made
receives_done said naming dump (Err fault) book events is made free = absurd made

pub asks_done : (naming : Naming) (asked : Asked) (dump : Dump) (told : Result Response LedgerFault)
    (book : Book) (events : List Event) (is : Bool)
    → Asks naming asked dump told false book events is → is_hindered told ≡ false
    → asked_outcome naming asked dump book
    ≡ record { told = told; events = but_for_entries asked events }
asks_done naming (Import layout said) dump told book events is made free =
    receives_done (note_given said) naming dump told book events is made free
asks_done naming (ImportBytes layout bytes said) dump told book events is made free =
    receives_done (note_given said) naming dump told book events is made free
asks_done naming other dump told book events is made free =
    calls_done _ told book events is made free

-- a call that was refused made no event, where the books are still open
called_unmade : (outcome : Book → Outcome Response) (fault : LedgerFault) (book : Book)
    (events : List Event)
    → Calls (λ (told : Response). told) outcome (Err fault) false book events false → events ≡ []
called_unmade outcome Memory book events called = called.makes
called_unmade outcome Store book events called = absurd (true≢false (sym called.reopens.store))
called_unmade outcome Reopen book events called = called.makes
called_unmade outcome fault book events called = called.makes.1

asked_unmade : (naming : Naming) (asked : Asked) (dump : Dump) (fault : LedgerFault) (book : Book)
    (events : List Event) → Asks naming asked dump (Err fault) false book events false → events ≡ []
asked_unmade naming (Import layout said) dump fault book events made = absurd made
asked_unmade naming (ImportBytes layout bytes said) dump fault book events made = absurd made
asked_unmade naming other dump fault book events made = called_unmade _ fault book events made

-- a ledger that is open after requests was open before them
open_at_first : {L : Type 0} (seen : L → Seen) (before : L) (exchanges : List (Exchange L))
    → AreAnswered seen before exchanges → IsStillOpen (seen (ledger_after before exchanges))
    → IsStillOpen (seen before)
open_at_first seen before [] done still = still
open_at_first seen before (exchange ∷ later) done still =
    open_earlier done.0.work (open_at_first seen exchange.after later done.1 still)

-- each answer is that of the book that those before it left
pub answers_follow_book : {L : Type 0} (seen : L → Seen) → AnswersFollowBook seen
answers_follow_book seen naming start before [] opened done still =
    record { end = start; told = refl; left = opened }
answers_follow_book seen naming start before (exchange ∷ later) opened done still =
    let one = done.0 in
    let told : Result Response LedgerFault = response_by exchange.answer in
    let gone = work_leaves opened one.work
    (open_at_first seen exchange.after later done.1 still) in
    let work = subst (λ naming. Asks naming exchange.asked one.dump told false start gone.events
    false) opened.naming gone.made in
    let rest = answers_follow_book seen naming (after_all gone.events start) exchange.after later
    gone.left done.1 still in
    record {
      end = rest.end;
      told = (
        gone.events,
        record {
          dump = one.dump;
          given = one.given;
          work = work;
          unmade = λ fault refused.
              asked_unmade naming exchange.asked one.dump fault start gone.events
              (subst (λ said. Asks naming exchange.asked one.dump said false start gone.events
              false) refused work);
          is = asks_done naming exchange.asked one.dump told start gone.events false work;
        },
        rest.told,
      );
      left = rest.left;
    }

-- and where that was the book of a history, it is that of the history
told_after : {L : Type 0} (naming : Naming) (start : List Event) (exchanges : List (Exchange L))
    (end : Book) → IsMadeByCalls naming start → AreAnsweredOf naming
    (book_after start) exchanges end
    → (history : List Event) × AreAnsweredAfter naming start exchanges history
    × (end ≡ book_after history)
told_after naming start [] end answered is = (start, refl, is)
told_after naming start (exchange ∷ later) end answered told =
    let made : List Event = told.0 in
    let more = history_goes_on naming made start
    (asks_answered naming exchange.asked told.1.dump (response_by exchange.answer)
    (book_after start) false made false told.1.work) answered in
    let rest = told_after naming (made ++ start) later end more
    (subst (λ book. AreAnsweredOf naming book later end)
    (sym (after_all-append made start new_book)) told.2) in (
      rest.0,
      (
        made,
        record {
          said = subst (λ book. IsAnsweredOf naming book exchange made)
              (books_follow_history start) told.1;
          answered = more;
        },
        rest.1,
      ),
      rest.2,
    )

-- the headline
pub answers_follow_history : {L : Type 0} (seen : L → Seen) → AnswersFollowHistory seen
answers_follow_history seen naming start before exchanges answered opened done still =
    let follow = answers_follow_book seen naming (book_after start) before exchanges opened done
    still in
    let history = told_after naming start exchanges follow.end answered follow.told in
    record {
      end = history.0;
      told = history.1;
      left = subst (λ book. IsOpenAt naming book (seen (ledger_after before exchanges))) history.2
          follow.left;
    }

-- histories that differ as allowed define one book,
same_book : (one other : List Event) → DiffersAsAllowed one other → book_of one ≡ book_of other
same_book one other differs =
    sym (books_follow_history one)
    ∙ order_is_free new_book one other differs.rulings differs.between
    ∙ books_follow_history other

-- so their answers are the same
pub answers_are_free : {L M : Type 0} (seen : L → Seen) (seen_other : M → Seen)
    → AnswersAreFree seen seen_other
answers_are_free seen seen_other naming history other one two made made_other first second differs
    asked dump free free_other =
    let is = first.said.is free in
    let is_other = second.said.is free_other in
    ap (λ (done : AskedOutcome). done.told)
    (sym is
    ∙ (λ i. asked_outcome naming (asked i) (dump i) (same_book history other differs i))
    ∙ is_other)
