-- What requests do to the books, one after another.
use Rattle.std.proofs.Common.{◌≡◌, ◌∙◌, ℕ, Bool, true, false, List, [], ◌++◌, None, not, refl, sym}
use Rattle.std.proofs.Common.{ap, subst, inl, inr, Option, Result, Ok, Err}
use Rattle.book_model.specs.Words.{Layout, front, Book, Event, Outcome, after_all, book_after}
use Rattle.book_model.specs.JournalLaws.{unjournaled, without_notes}
use Rattle.book_model.specs.Words.{Naming, Note, AreMadeOf}
use Rattle.book_model.proofs.JournalLemmas.{journal_stands_apart}
use Rattle.book_model.proofs.Lemmas.{books_follow_history}
use Rattle.book_core.specs.Words.{Calls, listed, Seen, IsTransition, Transition, MakesAnswered}
use Rattle.book_core.proofs.FollowLemmas.{called_events, follows, after_all-book_of}
use Rattle.book_core.proofs.FollowLemmas.{history_goes_on}
use Rattle.book_import.specs.Imports.{Imports}
use Rattle.book_import.proofs.RepeatLemmas.{twice_is_once}
use Rattle.book_reports.specs.declared.report.Report.{Report}
use Rattle.office.specs.Requests.{Dump, Ruling, Count, Receives}
use Rattle.office.proofs.LawLemmas.{receives_answered}
use Rattle.office.proofs.RunLemmas.{both_apart, handled_alone, next_alone}
use Rattle.book_http.proofs.Words.{is_utf8, RequestHead, LedgerFault, Receipt, stop_after}
use Rattle.book_http.proofs.Words.{DetailReport, WhatIf, report_outcome, detail_text_outcome}
use Rattle.book_http.proofs.Words.{what_if_report, Response, Text, response_outcome, whole_dump}
use Rattle.book_http.proofs.Words.{BodyKind, asked, office_reply, AnswersOffice, AnswersReport}
use Rattle.book_http.proofs.Words.{AnswersImport, AnswersDetails, AnswersWhatIf, AnswersAsked}
use Rattle.book_http.proofs.Words.{Prices, UnlessBad, Answers, done, no_memory, no_head, a_head}
use Rattle.book_http.proofs.Words.{form_kind, HasHead, IsUnhindered, Reply, AnswersRequest}
use Rattle.book_http.proofs.Words.{RequestSeen, Settles, WantsDetails, WantsImport, WantsReport}
use Rattle.book_http.proofs.Words.{WantsWhatIf, wanted_by, SendsAsRead}
use Rattle.book_http.specs.Laws.{RequestTwiceIsOnce, RequestsMakeHistory}
use Rattle.book_http.specs.declared.served.Served.{Served}
use Rattle.book_http.specs.Served.{IsDone}
use Rattle.book_http.proofs.HeadLemmas.{head_unique}
use Rattle.report_rows.specs.declared.report_row.BodyKind.TheVariants as kinds

-- a text that is no event makes none
pub text_none : (kind : BodyKind) (text : Book → Outcome (List ℕ)) (reply : Reply) (was : Bool)
    (before : Book) (events : List Event) (is : Bool) → (text before).event ≡ None
    → AnswersOffice kind (Calls (λ (told : Response). told) (response_outcome Text text)) reply was
    before events is → events ≡ []
text_none kind text reply was before events is no_event answers =
    elim (called_events (λ (told : Response). told) (response_outcome Text text before) answers.told
    events answers.made.makes) [
      | inl none ↦ none
      | inr all ↦ all ∙ ap listed no_event
    ]

-- a report is no event
pub report_none : (naming : Naming) (asked : Report) (kind : BodyKind) (reply : Reply) (was : Bool)
    (before : Book) (events : List Event) (is : Bool)
    → AnswersReport naming asked kind reply was before events is → events ≡ []
report_none naming asked kind reply was before events is answers =
    text_none kind (report_outcome naming asked) reply was before events is refl answers

-- nor are details
pub details_none : (naming : Naming) (wanted : DetailReport) (reply : Reply) (was : Bool)
    (before : Book)
    (events : List Event) (is : Bool) → AnswersDetails naming wanted reply was before events is
    → events ≡ []
details_none naming wanted reply was before events is answers =
    text_none _ (detail_text_outcome wanted naming) reply was before events is refl answers

-- where a bad request is refused, and with any other nothing is done, nothing is done
unless_none : (bad : Bool) (Made : Transition) (reply : Reply) (was : Bool) (before : Book)
    (events : List Event) (is : Bool) → (Made was before events is → events ≡ [])
    → UnlessBad bad Made reply was before events is → events ≡ []
unless_none true Made reply was before events is none made = made.none.none
unless_none false Made reply was before events is none made = none made

-- nor is what a period would have cost
pub what_if_none : (what_if : WhatIf) (body : List ℕ) (reply : Reply) (was : Bool) (before : Book)
    (events : List Event) (is : Bool) → AnswersWhatIf what_if body reply was before events is
    → events ≡ []
what_if_none what_if body reply was before events is =
    unless_none (not (is_utf8 body)) (AnswersOffice (form_kind what_if.form)
    (Prices what_if body) reply)
    reply was before events is
    (text_none _ (what_if_report what_if body) reply was before events is refl)

-- an import answers a receipt: its records were handled as by books without a journal
pub record IsCounted (naming : Naming) (dump : Dump) (told : Result Response LedgerFault)
    (was : Bool)
    (before : Book) (events : List Event) (is : Bool) : Type 0 where
  pub receipt : Receipt
  pub counted : told ≡ Ok (Count receipt)
  pub imported : Imports naming dump.layout dump.cut dump.bytes receipt was (unjournaled before)
      (without_notes events) is

pub import_counted : (said : Option Note) (naming : Naming) (dump : Dump)
    (told : Result Response LedgerFault) (was : Bool) (before : Book) (events : List Event)
    (is : Bool)
    → Receives said naming dump told was before events is
    → IsCounted naming dump told was before events is
import_counted said naming dump (Ok (Count receipt)) was before events is imports =
    let found = front dump.layout dump.bytes in
    record {
      receipt = receipt;
      counted = refl;
      imported = handled_alone naming (stop_after dump.cut found) found.records receipt was before
          (without_notes events) is imports.booked;
    }
import_counted said naming dump (Ok (Ruling ruled)) was before events is never = absurd never
import_counted said naming dump (Ok (Text text)) was before events is never = absurd never
import_counted said naming dump (Err fault) was before events is never = absurd never

-- what is answered to a head is the answer to any other at the beginning of the same bytes
pub asked_alike : (naming : Naming) (bytes : List ℕ) (head other : RequestHead)
    (behind rest : List ℕ) (reply : Reply) (was : Bool) (before : Book) (events : List Event)
    (is : Bool) → HasHead bytes head behind → HasHead bytes other rest
    → AnswersAsked naming (asked other) rest reply was before events is
    → AnswersAsked naming (asked head) behind reply was before events is
asked_alike naming bytes head other behind rest reply was before events is stands there made =
    let same = head_unique bytes other head rest behind there stands in
    subst (λ (h : RequestHead). AnswersAsked naming (asked h) behind reply was before events is)
    same.0
    (subst (λ (b : List ℕ). AnswersAsked naming (asked other) b reply was before events is) same.1
    made)

-- a request, and then the same once more
module _ (naming : Naming) (once twice : Reply) (before : Book) (first second : List Event)
    (between is : Bool) where
  -- where the second did nothing, the first alone did
  nothing_more : second ≡ []
      → unjournaled (after_all (second ++ first) before) ≡ unjournaled (after_all first before)
  nothing_more none =
      ap (λ (events : List Event). unjournaled (after_all (events ++ first) before)) none

  import_twice : (layout : Layout) (body : List ℕ)
      → AnswersImport naming layout body once false before first between → IsUnhindered once
      → AnswersImport naming layout body twice between (after_all first before) second is
      → unjournaled (after_all (second ++ first) before) ≡ unjournaled (after_all first before)
  import_twice layout body one unhindered two =
      let dump = whole_dump layout body in
      let found = front layout body in
      let stop = stop_after None found in
      let a = import_counted one.said naming dump one.made.told false before first between
      one.made.made in
      let b = import_counted two.said naming dump two.made.told between
      (after_all first before) second
      is two.made.made in
      both_apart before first second
      ∙ twice_is_once naming (unjournaled before) stop stop found.records a.receipt b.receipt
      (without_notes first) (without_notes second) between is a.imported
      (unhindered.whole a.receipt (one.made.replied ∙ ap (office_reply kinds.Text) a.counted))
      (next_alone naming stop found.records b.receipt between before first (without_notes second) is
      b.imported)
      ∙ sym (journal_stands_apart before first)

  -- whatever is asked
  wanted_twice : (request : RequestSeen)
      → AnswersRequest naming request once false before first between → IsUnhindered once
      → AnswersRequest naming request twice between (after_all first before) second is
      → unjournaled (after_all (second ++ first) before) ≡ unjournaled (after_all first before)
  wanted_twice (Settles due) one unhindered two = nothing_more two.none.none
  wanted_twice (WantsReport report kind) one unhindered two =
      nothing_more
      (report_none naming report kind twice between (after_all first before) second is two)
  wanted_twice (WantsDetails wanted) one unhindered two =
      nothing_more (details_none naming wanted twice between (after_all first before) second is two)
  wanted_twice (WantsWhatIf what_if body) one unhindered two =
      nothing_more (what_if_none what_if body twice between (after_all first before) second is two)
  wanted_twice (WantsImport layout body) one unhindered two =
      import_twice layout body one unhindered two

  -- a head's request, after another request of the same bytes
  head_twice : (bytes : List ℕ) (head : RequestHead) (behind : List ℕ) → HasHead bytes head behind
      → Answers naming bytes once false before first between → IsUnhindered once
      → AnswersAsked naming (asked head) behind twice between (after_all first before) second is
      → unjournaled (after_all (second ++ first) before) ≡ unjournaled (after_all first before)
  head_twice bytes head behind stands (no_head some never refused) unhindered two =
      absurd (never head behind stands)
  head_twice bytes head behind stands (a_head other rest there (no_memory refused)) unhindered two =
      absurd (unhindered.done refused.replied)
  head_twice bytes head behind stands (a_head other rest there (done made)) unhindered two =
      wanted_twice (wanted_by (asked head) behind)
      (asked_alike naming bytes head other behind rest once false before first between stands there
      made) unhindered two

-- the law of it
pub request_twice_is_once : RequestTwiceIsOnce
request_twice_is_once naming before bytes once twice first second between is one unhindered
    (no_head some never refused) =
    nothing_more naming once twice before first second between is refused.none.none
request_twice_is_once naming before bytes once twice first second between is one unhindered
    (a_head head behind stands (no_memory refused)) =
    nothing_more naming once twice before first second between is refused.none.none
request_twice_is_once naming before bytes once twice first second between is one unhindered
    (a_head head behind stands (done two)) =
    head_twice naming once twice before first second between is bytes head behind stands one
    unhindered
    two

-- events that are none are answered
none_answered : (naming : Naming) (book : Book) (events : List Event) → events ≡ []
    → AreMadeOf naming book events
none_answered naming book events none = subst (AreMadeOf naming book) (sym none) tt

-- what is asked makes events that the books answered, whatever bytes asked it
pub wanted_answered : (naming : Naming) (request : RequestSeen) (reply : Reply)
    → MakesAnswered naming (AnswersRequest naming request reply)
wanted_answered naming (Settles due) reply book was events is made =
    none_answered naming book events made.none.none
wanted_answered naming (WantsReport report kind) reply book was events is made =
    none_answered naming book events (report_none naming report kind reply was book events is made)
wanted_answered naming (WantsDetails wanted) reply book was events is made =
    none_answered naming book events (details_none naming wanted reply was book events is made)
wanted_answered naming (WantsWhatIf what_if body) reply book was events is made =
    none_answered naming book events (what_if_none what_if body reply was book events is made)
wanted_answered naming (WantsImport layout body) reply book was events is made =
    receives_answered made.said naming (whole_dump layout body) made.made.told book was events is
    made.made.made

-- so do the bytes of a request
pub request_answered : (naming : Naming) (bytes : List ℕ) (reply : Reply)
    → MakesAnswered naming (Answers naming bytes reply)
request_answered naming bytes reply book was events is (no_head some never refused) =
    none_answered naming book events refused.none.none
request_answered naming bytes reply book was events is
    (a_head head behind stands (no_memory refused)) =
    none_answered naming book events refused.none.none
request_answered naming bytes reply book was events is (a_head head behind stands (done made)) =
    wanted_answered naming (wanted_by (asked head) behind) reply book was events is made

-- the law of it
pub requests_make_history : RequestsMakeHistory
requests_make_history naming past bytes reply was events is answered made =
    let goes_on = history_goes_on naming events past
    (request_answered naming bytes reply (book_after past) was events is made) answered in
    record {
      answered = goes_on;
      is = ap (after_all events) (books_follow_history past) ∙ after_all-book_of events past;
    }

-- so work that answers a request follows the history
pub request_done : (old new : Seen) (bytes : List ℕ) (reply : Reply)
    → IsTransition old new (Answers old.naming bytes reply)
    → IsDone old new (Answers old.naming bytes reply)
request_done old new bytes reply work = record {
  work = work;
  history =
      follows old new (Answers old.naming bytes reply) (request_answered old.naming bytes reply)
      work;
}

-- nor does it matter that the answer is sent while it is read
pub sent_done : (old new : Seen) (bytes : List ℕ) (held holds : Option (List ℕ)) (served : Served)
    → IsTransition old new (SendsAsRead old.naming bytes held holds served)
    → IsDone old new (SendsAsRead old.naming bytes held holds served)
sent_done old new bytes held holds served work = record {
  work = work;
  history =
      follows old new (SendsAsRead old.naming bytes held holds served)
      (λ book was events is made.
      request_answered old.naming bytes made.reply book was events was made.answer.0)
      work;
}
