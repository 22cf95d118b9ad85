-- Clients that are answered one after the other from books that are open for all of them.
use Rattle.std.proofs.Common.{◌≡◌, ◌∙◌, ℕ, Bool, false, true, List, [], ◌∷◌, ◌++◌, refl, sym}
use Rattle.std.proofs.Common.{ap, subst, true≢false, Option, Some, None, Result, Ok, Err}
use Rattle.std.specs.Io.KnownBytes.{Consumes}
use Rattle.streams.specs.declared.source.Source.{Source}
use Rattle.streams.specs.Sources.{has_ended, reader_of}
use Rattle.book_model.specs.declared.fault.LedgerFault.{LedgerFault}
use Rattle.book_model.specs.Words.{Book, Event, Naming, Outcome, after_all}
use Rattle.book_core.specs.Words.{Calls, Seen, IsTransition, NoEvent, Then, Transition, is_reopen}
use Rattle.book_core.proofs.TransitionLemmas.{no_work, work_as, work_then}
use Rattle.book_reports.specs.declared.report.Report.{Report}
use Rattle.book_reports.specs.BookTexts.{report_outcome}
use Rattle.office.specs.Requests.{Response, Text, response_outcome}
use Rattle.report_rows.specs.declared.report_row.BodyKind.{BodyKind}
use Rattle.book_http.specs.declared.served.Served.{Served}
use Rattle.book_http.specs.declared.served.Unanswered.{Unanswered}
use Rattle.book_http.specs.declared.status.Status.TheVariants.{Done}
use Rattle.book_http.specs.Answer.{Answers, AnswersOffice, AnswersReport, office_reply}
use Rattle.book_http.specs.Reads.{ReadOutcome, ReadsRequest, bytes_read}
use Rattle.book_http.specs.Replies.{Reply}
use Rattle.book_http.specs.Requested.{IsReadAs, WantsReport, WholeRequest}
use Rattle.book_http.specs.Served.{IsSent, is_unanswered}
use Rattle.book_http.proofs.GatherLemmas.{refused_status}
use Rattle.book_http.proofs.LawLemmas.{report_none}
use Rattle.book_http.proofs.ServeLemmas.{bytes_answered}
use Rattle.request_bursts.specs.Bursts.{AnswersMore, AnswersOne, AnswersSeen, AreDueBy, AskReport}
use Rattle.request_bursts.specs.Bursts.{Fits, IsDueBy, IsShort, LooksOnly}
use Rattle.book_http.specs.declared.asked.Asked.TheVariants as asks
use Rattle.book_http.specs.declared.served.Served.TheVariants as served

-- ---- one client

-- a report was read that was asked for, and the end was not met: whatever follows, it is that
pub asks_report : {R : Type 0} {answers : _} {bytes : _} {remaining : R → Option (List ℕ)}
    {MayAnswer : ReadOutcome R} (first last : Source R answers bytes) (sent rest : List ℕ)
    (report : Report) (kind : BodyKind) (read : Result WholeRequest Unanswered)
    → ReadsRequest remaining MayAnswer first last (λ ended. IsReadAs ended read)
    → read ≡ Ok (asks.Report report kind)
    → has_ended last ≡ false → remaining (reader_of first) ≡ Some sent
    → remaining (reader_of last) ≡ Some rest → AskReport sent report kind
asks_report {remaining = remaining} first last sent rest report kind read it is unended had left =
    let gave = subst (λ (read : Result WholeRequest Unanswered).
    IsReadAs (has_ended last) read (bytes_read it.reads)) is it.gave in
    record {
      taken = bytes_read it.reads;
      rest = rest;
      parts = subst (λ (left : Option (List ℕ)). Consumes (Some sent) left (bytes_read it.reads)) left
          (subst (λ (had : Option (List ℕ)). Consumes had (remaining (reader_of last))
          (bytes_read it.reads)) had it.between.taken);
      asks = λ more. gave more (λ ended. absurd (true≢false (sym ended ∙ unended)));
    }

-- nothing was done
pub looks_none : (seen : Seen) → IsTransition seen seen LooksOnly
looks_none seen = work_as seen seen NoEvent LooksOnly
    (λ was before events is none. record { none = none.none }) (no_work seen)

-- a report that is not sent is no event
pub looks_report : (old new : Seen) (report : Report) (kind : BodyKind) (reply : Reply)
    → IsTransition old new (AnswersReport old.naming report kind reply)
    → IsTransition old new LooksOnly
looks_report old new report kind reply asked =
    work_as old new (AnswersReport old.naming report kind reply) LooksOnly
    (λ was before events is made.
    record { none = report_none old.naming report kind reply was before events is made }) asked

-- a report that is sent is the answer to the bytes that asked for it
pub seen_answered : (old new : Seen) (sent : List ℕ) (report : Report) (kind : BodyKind) (due : Reply)
    (held holds : Option (List ℕ)) (what : Served) → AskReport sent report kind
    → IsShort due → IsSent due held holds what
    → IsTransition old new (AnswersReport old.naming report kind due)
    → IsTransition old new (AnswersSeen old.naming sent held holds what)
seen_answered old new sent report kind due held holds what asks short written asked =
    work_as old new (AnswersReport old.naming report kind due)
    (AnswersSeen old.naming sent held holds what)
    (λ was before events is made. record {
      report = report;
      kind = kind;
      asks = asks;
      due = due;
      short = short;
      answer = made;
      written = written;
    }) asked

-- the status that was told is the reply's
sent_fits : (reply : Reply) (held holds : Option (List ℕ)) (what : Served)
    → IsSent reply held holds what → Fits what reply
sent_fits reply held holds (served.Answered status) sent = sent.0
sent_fits reply held holds what sent = tt

-- something was written
pub sent_begun : (reply : Reply) (held holds : Option (List ℕ)) (what : Served)
    → IsSent reply held holds what → is_unanswered what ≡ false
sent_begun reply held holds (served.Answered status) sent = refl
sent_begun reply held holds served.WriteFault sent = refl
sent_begun reply held holds what sent = absurd sent

-- books that are to be opened again give no text
no_reopen : (kind : BodyKind) (told : Result Response LedgerFault)
    → (office_reply kind told).status ≡ Done → is_reopen told ≡ false
no_reopen kind (Ok response) done = refl
no_reopen kind (Err fault) done = absurd (refused_status kind fault done)

was_open : (kind : BodyKind) (text : Book → Outcome (List ℕ)) (reply : Reply) (was : Bool)
    (before : Book) (events : List Event) (is : Bool)
    → AnswersOffice kind (Calls (λ (told : Response). told) (response_outcome Text text)) reply was
    before events is → reply.status ≡ Done → was ≡ false
was_open kind text reply was before events is it done =
    sym it.made.reopens.reopen
    ∙ no_reopen kind it.told (sym (ap (λ (reply : Reply). reply.status) it.replied) ∙ done)

-- who was answered by what was seen of it was answered
one_answers : (naming : Naming) (sent : List ℕ) (held holds : Option (List ℕ)) (what : Served)
    (was : Bool) (before : Book) (events : List Event) (is : Bool)
    → AnswersSeen naming sent held holds what was before events is
    → AnswersOne naming what was before events is
one_answers naming sent held holds what was before events is it =
    let report = it.report in
    let kind = it.kind in
    let bytes = it.asks.taken ++ [] in
    let none = report_none naming report kind it.due was before events is it.answer in
    let unfailed = was_open kind (report_outcome naming report) it.due was before events is it.answer
    it.short.text in
    let made = bytes_answered naming bytes (WantsReport report kind) it.due (it.asks.asks []) was before
    events is it.answer in
    record {
      none = none;
      due = record {
        bytes = bytes;
        due = it.due;
        left = is;
        made = subst (λ (was : Bool). Answers naming bytes it.due was before [] is) unfailed
            (subst (λ (events : List Event). Answers naming bytes it.due was before events is) none
            made);
        fits = sent_fits it.due held holds what it.written;
        begun = sent_begun it.due held holds what it.written;
      };
    }

pub one_seen : (old new : Seen) (sent : List ℕ) (held holds : Option (List ℕ)) (what : Served)
    → IsTransition old new (AnswersSeen old.naming sent held holds what)
    → IsTransition old new (AnswersOne old.naming what)
one_seen old new sent held holds what =
    work_as old new (AnswersSeen old.naming sent held holds what) (AnswersOne old.naming what)
    (one_answers old.naming sent held holds what)

-- ---- one after the other

-- nobody was answered
pub more_none : (seen : Seen) → IsTransition seen seen (AnswersMore seen.naming [])
more_none seen = work_as seen seen NoEvent (AnswersMore seen.naming [])
    (λ was before events is none. record { none = none.none; due = tt }) (no_work seen)

-- what comes after no event comes after the book itself
after_none : (Is : Book → Type 0) (early : List Event) (before : Book) → early ≡ []
    → Is (after_all early before) → Is before
after_none Is early before none is =
    subst (λ (early : List Event). Is (after_all early before)) none is

-- no event, and then none
none_then : (events late early : List Event) → events ≡ late ++ early → late ≡ [] → early ≡ []
    → events ≡ []
none_then events late early all none before =
    all ∙ ap (λ (late : List Event). late ++ early) none ∙ before

-- one more was answered
more_then : (naming : Naming) (told : List Served) (what : Served) (was : Bool) (before : Book)
    (events : List Event) (is : Bool)
    → Then (AnswersMore naming told) (AnswersOne naming what) was before events is
    → AnswersMore naming (what ∷ told) was before events is
more_then naming told what was before events is it = record {
  none = none_then events it.late it.early it.all it.next.none it.first.none;
  due = (
    it.first.due,
    after_none (λ book. IsDueBy naming book what) it.early before it.first.none it.next.due,
  );
}

pub more_more : (one two three : Seen) (told : List Served) (what : Served)
    → IsTransition one two (AnswersMore one.naming told)
    → IsTransition two three (AnswersOne two.naming what)
    → IsTransition one three (AnswersMore one.naming (what ∷ told))
more_more one two three told what before next =
    work_as one three (Then (AnswersMore one.naming told) (AnswersOne one.naming what))
    (AnswersMore one.naming (what ∷ told)) (more_then one.naming told what)
    (work_then one two three (AnswersMore one.naming told) (AnswersOne one.naming what) before
    (subst (λ naming. IsTransition two three (AnswersOne naming what)) before.naming next))

-- the books were looked at after them
more_looks : (naming : Naming) (told : List Served) (was : Bool) (before : Book) (events : List Event)
    (is : Bool) → Then (AnswersMore naming told) LooksOnly was before events is
    → AnswersMore naming told was before events is
more_looks naming told was before events is it = record {
  none = none_then events it.late it.early it.all it.next.none it.first.none;
  due = it.first.due;
}

pub more_looked : (one two three : Seen) (told : List Served)
    → IsTransition one two (AnswersMore one.naming told) → IsTransition two three LooksOnly
    → IsTransition one three (AnswersMore one.naming told)
more_looked one two three told before looks =
    work_as one three (Then (AnswersMore one.naming told) LooksOnly) (AnswersMore one.naming told)
    (more_looks one.naming told)
    (work_then one two three (AnswersMore one.naming told) LooksOnly before looks)
