-- One request of a client, from books that are open only while they are asked.
use Rattle.std.proofs.Common.{◌≡◌, ◌∙◌, ◌<◌, ◌+◌, Bool, true, false, List, [], ◌∷◌, ◌++◌, ℕ, refl, sym}
use Rattle.std.proofs.Common.{ap, append-nil, arith, length, reverse, suc, subst, inl, inr, None}
use Rattle.std.proofs.Common.{Option, Some, Result, Ok, Err, true≢false, IfErr}
use Rattle.std.specs.Io.KnownBytes.{Consumes}
use Rattle.streams.specs.declared.source.Source.{Source}
use Rattle.streams.specs.Sources.{has_ended, has_failed, reader_of}
use Rattle.book_model.specs.Words.{Book, Event, Naming, after_all, book_after}
use Rattle.book_core.specs.Words.{Seen, IsTransition, NoEvent, Then, Transition}
use Rattle.book_core.proofs.TransitionLemmas.{work_then}
use Rattle.book_reports.specs.declared.report.Report.{Report}
use Rattle.book_reports.specs.declared.streamed_details.DetailReport.{DetailReport}
use Rattle.report_rows.specs.declared.report_row.BodyKind.{BodyKind}
use Rattle.book_http.specs.declared.answer.Answer.{Answer}
use Rattle.book_http.specs.declared.served.Served.{Served}
use Rattle.book_http.specs.declared.status.Status.TheVariants.{Unavailable}
use Rattle.book_http.specs.Answer.{Answers, AnswersReport, RefusesRequest, most_gathered}
use Rattle.book_http.specs.Reads.{AreDue, IsDue, ReadOutcome, ReadsOn, bytes_read, ended_after}
use Rattle.book_http.specs.Reads.{failed_after}
use Rattle.book_http.specs.Replies.{Reply, refusal, reply_of}
use Rattle.book_http.specs.Requested.{AnswersRequest, AreAsking, IsAsking, WholeRequest}
use Rattle.book_http.specs.Requested.{request_seen}
use Rattle.book_http.specs.Served.{IsSent, IsSentAsRead, SendsReplyAsRead, is_read_fault}
use Rattle.book_http.specs.Served.{is_unanswered}
use Rattle.book_http.proofs.LawLemmas.{report_none}
use Rattle.book_http.proofs.ServeLemmas.{bytes_answered}
use Rattle.book_http.proofs.StreamLemmas.{AnswersSized}
use Rattle.named_books.specs.Shelves.{IsThere, IsUntouched}
use Rattle.named_books.proofs.ShelfLemmas.{untouched}
use Rattle.request_bursts.specs.Bursts.{AnswersMore, AreDueBy, IsDueBy, IsShort}
use Rattle.request_bursts.proofs.BurstLemmas.{more_none, sent_begun}
use Rattle.chargectl.specs.ClientRequests.{AreAnsweredFrom, AreAsked, AreLed, AsksAll, AsksBehind}
use Rattle.chargectl.specs.ClientRequests.{AsksOpen, ComesAll, EndsBy, EndsUnseen, FailsBefore}
use Rattle.chargectl.specs.declared.client_requests.Attended.{Attended}
use Rattle.chargectl.specs.ClientRequests.{IsAnsweredFrom, IsReplied, IsSentOpen}
use Rattle.chargectl.specs.ClientRequests.{IsServedByReads}
use Rattle.chargectl.specs.ClientRequests.{IsServedFrom, SendsAnswer, SendsOpen, all_behind, asks_books}
use Rattle.chargectl.specs.ClientRequests.{LeavesLog, is_report, later_of, may_be_early, may_lead}
use Rattle.chargectl.specs.ClientRequests.{told_behind}
use Rattle.chargectl.specs.ServedClients.{AnswersSome, Fits, IsFrontOf, Replies, ServesBehind}
use Rattle.chargectl.specs.ServedClients.{ServesOne, away_reply}
use Rattle.chargectl.specs.Serving.{Attends, is_answered}
use Rattle.chargectl.proofs.Words.{work_as, RepositoryFault, ComesBy, IsDoneTo, IsOpened, Shelf}
use Rattle.chargectl.proofs.Words.{done_as}
use Rattle.book_http.specs.declared.asked.Asked.TheVariants as wants
use Rattle.book_http.specs.declared.served.Served.TheVariants as served
use Rattle.named_books.specs.declared.repository.RepositoryFault.TheVariants as shelf

-- ---- what is sent

-- what was written by a writer was written by the one that it was taken from
pub written_so : (Is : Option (List ℕ) → Option (List ℕ) → Type 0)
    (old held has holds : Option (List ℕ)) → old ≡ held → holds ≡ has → Is old has → Is held holds
written_so Is old held has holds one two is =
    subst (λ held. Is held holds) one (subst (λ holds. Is old holds) (sym two) is)

-- long details were answered, and sent while they were read
pub details_open : (old new : Seen) (details : DetailReport) (size : ℕ)
    (held holds : Option (List ℕ)) (what : Served) → most_gathered < size
    → IsTransition old new (SendsReplyAsRead (AnswersSized old.naming details size) held holds what)
    → IsTransition old new (SendsAnswer old.naming (wants.Details details) held holds what)
details_open old new details size held holds what long sends =
    work_as old new (SendsReplyAsRead (AnswersSized old.naming details size) held holds what)
    (SendsAnswer old.naming (wants.Details details) held holds what)
    (λ was before events is it. record {
      reply = it.reply;
      left = was;
      answer = it.answer.0;
      sent = (subst (λ size. most_gathered < size) (sym it.answer.1) long, it.sent);
    })
    sends

-- a short text was answered, and sent
pub short_open : (old new : Seen) (report : Report) (kind : BodyKind) (due : Reply)
    (held holds : Option (List ℕ)) (what : Served) → IsShort due → IsSent due held holds what
    → IsTransition old new (AnswersReport old.naming report kind due)
    → IsTransition old new (SendsAnswer old.naming (wants.Report report kind) held holds what)
short_open old new report kind due held holds what short sent asked =
    work_as old new (AnswersReport old.naming report kind due)
    (SendsAnswer old.naming (wants.Report report kind) held holds what)
    (λ was before events is made. record {
      reply = due;
      left = is;
      answer = made;
      sent = (short, sent);
    })
    asked

-- ---- those behind a client

-- what was sent does not depend on whether the books are to be reopened
answer_left : (naming : Naming) (request : WholeRequest) (held holds : Option (List ℕ)) (what : Served)
    (was : Bool) (before : Book) (early events : List Event) (left is : Bool) → events ≡ early
    → SendsAnswer naming request held holds what was before early left
    → SendsAnswer naming request held holds what was before events is
answer_left naming request held holds what was before early events left is same it = record {
  reply = it.reply;
  left = it.left;
  answer = subst
      (λ (events : List Event). AnswersRequest naming (request_seen request) it.reply was before events
      it.left) (sym same) it.answer;
  sent = it.sent;
}

-- a report made no event
report_only : (naming : Naming) (request : WholeRequest) (held holds : Option (List ℕ)) (what : Served)
    (was : Bool) (before : Book) (events : List Event) (left : Bool) → is_report request ≡ true
    → SendsAnswer naming request held holds what was before events left → events ≡ []
report_only naming (wants.Report report kind) held holds what was before events left reports it =
    report_none naming report kind it.reply was before events it.left it.answer
report_only naming request held holds what was before events left reports it =
    absurd (true≢false (sym reports))

-- by the same book others were answered
are_asked : (naming : Naming) (before : Book) (events : List Event) (later : List Served)
    → events ≡ [] → AreDueBy naming before later → AreAsked naming before events later
are_asked naming before events [] none due = tt
are_asked naming before events (what ∷ later) none due = (none, due)

more_asked : (naming : Naming) (request : WholeRequest) (held holds : Option (List ℕ)) (what : Served)
    (later : List Served) (was : Bool) (before : Book) (events : List Event) (is : Bool)
    → is_report request ≡ true
    → Then (SendsAnswer naming request held holds what) (AnswersMore naming later) was before events is
    → AsksAll naming request held holds (Ok what) later was before events is
more_asked naming request held holds what later was before events is reports it =
    let none = report_only naming request held holds what was before it.early it.between reports it.first
    in
    let same : events ≡ it.early =
    it.all ∙ ap (λ (late : List Event). late ++ it.early) it.next.none in
    record {
      first = answer_left naming request held holds what was before it.early events it.between is same
          it.first;
      behind = are_asked naming before events later (same ∙ none)
          (subst (λ (early : List Event). AreDueBy naming (after_all early before) later) none
          it.next.due);
    }

-- nobody was
none_asked : (naming : Naming) (request : WholeRequest) (held holds : Option (List ℕ))
    (told : Result Served Answer) (was : Bool) (before : Book) (events : List Event) (is : Bool)
    → AsksOpen naming request held holds told was before events is
    → AsksAll naming request held holds told [] was before events is
none_asked naming request held holds told was before events is it = record { first = it; behind = tt }

-- nobody was, and the books are as they were
pub nobody_asked : {L : Type 0} (seen : L → Seen) (old new : L) (later : List Served) → new ≡ old
    → later ≡ [] → AsksBehind seen true old new (reverse later)
nobody_asked seen old new later same none =
    subst (λ place. IsTransition (seen old) (seen place) (AnswersMore (seen old).naming (reverse later)))
    (sym same)
    (subst (λ (later : List Served). IsTransition (seen old) (seen old)
    (AnswersMore (seen old).naming (reverse later))) (sym none) (more_none (seen old)))

pub led_behind : {L : Type 0} (seen : L → Seen) (leads : Bool) (old new : L) (later : List Served)
    → AsksBehind seen leads old new later → AreLed leads later
led_behind seen true old new later asked = tt
led_behind seen false old new later asked = asked.1

module _ {L : Type 0} (seen : L → Seen) (one two three : L) (request : WholeRequest)
    (held holds : Option (List ℕ)) (later : List Served) where
  alone_asked : (told : Result Served Answer)
      → IsTransition (seen one) (seen two) (AsksOpen (seen one).naming request held holds told)
      → three ≡ two → later ≡ []
      → IsTransition (seen one) (seen three) (AsksAll (seen one).naming request held holds told later)
  alone_asked told first same none =
      subst (λ (place : L). IsTransition (seen one) (seen place)
      (AsksAll (seen one).naming request held holds told later)) (sym same)
      (subst (λ (later : List Served). IsTransition (seen one) (seen two)
      (AsksAll (seen one).naming request held holds told later)) (sym none)
      (work_as (seen one) (seen two) (AsksOpen (seen one).naming request held holds told)
      (AsksAll (seen one).naming request held holds told [])
      (none_asked (seen one).naming request held holds told) first))

  led_asked : (what : Served) → is_report request ≡ true
      → IsTransition (seen one) (seen two) (SendsAnswer (seen one).naming request held holds what)
      → IsTransition (seen two) (seen three) (AnswersMore (seen two).naming later)
      → IsTransition (seen one) (seen three)
      (AsksAll (seen one).naming request held holds (Ok what) later)
  led_asked what reports first next =
      let naming = (seen one).naming in
      let First = SendsAnswer naming request held holds what in
      work_as (seen one) (seen three) (Then First (AnswersMore naming later))
      (AsksAll naming request held holds (Ok what) later)
      (λ was before events is it.
      more_asked naming request held holds what later was before events is reports it)
      (work_then (seen one) (seen two) (seen three) First (AnswersMore naming later) first
      (subst (λ naming. IsTransition (seen two) (seen three) (AnswersMore naming later)) first.naming
      next))

  by_lead : (told : Result Served Answer) (reports : Bool) → is_report request ≡ reports
      → IsTransition (seen one) (seen two) (AsksOpen (seen one).naming request held holds told)
      → AsksBehind seen (may_lead reports told) two three later
      → IsTransition (seen one) (seen three) (AsksAll (seen one).naming request held holds told later)
  by_lead (Err answer) reports is first next = alone_asked (Err answer) first next.0 next.1
  by_lead (Ok what) false is first next = alone_asked (Ok what) first next.0 next.1
  by_lead (Ok what) true is first next = led_asked what is first next

  -- one client was asked for, and then those behind it
  pub all_asked : (told : Result Served Answer)
      → IsTransition (seen one) (seen two) (AsksOpen (seen one).naming request held holds told)
      → AsksBehind seen (may_lead (is_report request) told) two three later
      → IsTransition (seen one) (seen three) (AsksAll (seen one).naming request held holds told later)
  all_asked told first next = by_lead told (is_report request) refl first next

-- ---- a request that asks nothing, and what comes of a visit

-- a request that asks nothing of the books
pub settled : (book : List ℕ) (place : Shelf) (answer : Answer) (held holds : Option (List ℕ))
    (what : Served) → IsSent (reply_of answer) held holds what
    → IsAnsweredFrom book place place (wants.Settled answer) held holds what
settled book place answer held holds what sent = record {
  told = Ok (Err answer);
  shown = held;
  done = done_as book NoEvent (RefusesRequest (reply_of answer) (reply_of answer)) place place
      (λ before events is none. record { none = none; replied = refl }) (untouched book place);
  there = λ asks. absurd (true≢false (sym asks));
  early = refl;
  ends = sent;
}

-- and nobody was answered behind it
pub settled_alone : {S : Type 0} (seen : S → Shelf) (book : List ℕ) (place : S) (answer : Answer)
    (held holds : Option (List ℕ)) (what : Served) (later : List Served) → later ≡ []
    → IsSent (reply_of answer) held holds what
    → AreAnsweredFrom seen book place place (wants.Settled answer) held holds what
    (all_behind what (reverse later))
settled_alone seen book place answer held holds what later none sent = record {
  between = place;
  first = settled book (seen place) answer held holds what sent;
  behind = subst
      (λ (later : List Served). ServesBehind seen book place place (all_behind what (reverse later)))
      (sym none) refl;
}

-- they are none
pub none_count : (what : Served) (later : List Served) → later ≡ []
    → length (all_behind what (reverse later)) ≡ 0
none_count what later none =
    ap (λ (later : List Served). length (all_behind what (reverse later))) none

-- what asks nothing of them is settled
pub settled_by : (request : WholeRequest) → asks_books request ≡ false
    → (answer : Answer) × (request ≡ wants.Settled answer)
settled_by (wants.Settled answer) none = (answer, refl)
settled_by request none = absurd (true≢false none)

-- what came of a visit, seen as something else
comes_as : {A : Type 0} (One Other : A → Type 0) (Same Still : Type 0)
    → ((answer : A) → One answer → Other answer) → (Same → Still) → (told : Result A RepositoryFault)
    → ComesBy One Same told → ComesBy Other Still told
comes_as One Other Same Still so still (Ok answer) came = so answer came
comes_as One Other Same Still so still (Err shelf.Unseen) (inl came) = inl (came.0, so came.0 came.1)
comes_as One Other Same Still so still (Err shelf.Unseen) (inr same) = inr (still same)
comes_as One Other Same Still so still (Err why) same = still same

-- what is so in any case
comes_so : {A : Type 0} (Is : Type 0) (told : Result A RepositoryFault)
    → ComesBy (λ (answer : A). Is) Is told → Is
comes_so Is (Ok answer) it = it
comes_so Is (Err shelf.Unseen) (inl it) = it.1
comes_so Is (Err shelf.Unseen) (inr it) = it
comes_so Is (Err why) it = it

module _ {C : Type 0} (left : C → ℕ) (before after : C) (request : WholeRequest)
    (held shown : Option (List ℕ)) (Failed Same : Type 0) (later : List Served)
    (told : Result (Result Served Answer) RepositoryFault)
    (came : ComesBy (λ (told : Result Served Answer). ComesAll left before after request held shown
    Failed told later) Same told) where
  -- so much was sent by a visit, or nothing, where there was none
  pub sent_open : (Same → shown ≡ held) → ComesBy (SendsOpen request held shown) (shown ≡ held) told
  sent_open still =
      comes_as
      (λ (told : Result Served Answer). ComesAll left before after request held shown Failed told later)
      (SendsOpen request held shown) Same (shown ≡ held) (λ answer all. all.first.sends) still told came

  -- nobody was answered behind a client that leads none
  pub led_open : (Same → later ≡ [])
      → ComesBy (λ (told : Result Served Answer). AreLed (may_lead (is_report request) told) later)
      (later ≡ []) told
  led_open still =
      comes_as
      (λ (told : Result Served Answer). ComesAll left before after request held shown Failed told later)
      (λ (told : Result Served Answer). AreLed (may_lead (is_report request) told) later) Same
      (later ≡ []) (λ answer all. all.led) still told came

  -- so many were
  pub count_open : (Same → left after + length later ≡ left before)
      → left after + length later ≡ left before
  count_open still =
      comes_so (left after + length later ≡ left before) told
      (comes_as
      (λ (told : Result Served Answer). ComesAll left before after request held shown Failed told later)
      (λ (told : Result Served Answer). left after + length later ≡ left before) Same
      (left after + length later ≡ left before) (λ answer all. all.count) still told came)

-- and a write of that failed, where it is told
pub failed_open : {C : Type 0} (left : C → ℕ) (before after : C) (request : WholeRequest)
    (held shown : Option (List ℕ)) (Failed Same : Type 0) (later : List Served)
    (told : Result (Result Served Answer) RepositoryFault)
    → ComesBy (λ (told : Result Served Answer). ComesAll left before after request held shown Failed told
    later) Same told
    → FailsBefore Failed told
failed_open left before after request held shown Failed Same later (Ok answer) came = came.first.failed
failed_open left before after request held shown Failed Same later (Err why) same = tt

-- where nobody came all are left
pub nobody_counted : {C : Type 0} (left : C → ℕ) (before after : C) (later : List Served)
    → after ≡ before → later ≡ [] → left after + length later ≡ left before
nobody_counted left before after later same none =
    subst (λ (later : List Served). left after + length later ≡ left before) (sym none)
    (let kept = ap left same in omega (arith, kept))

-- nobody comes or goes by what is told of those behind a client
pub length_behind : (first : Served) (later : List Served)
    → length (all_behind first later) ≡ length later
length_behind first [] = refl
length_behind first (what ∷ before) = ap suc (length_behind first before)

-- ---- each behind a client is served as one alone

-- work that makes no event, on books that are as they were
still_done : (book : List ℕ) (Made : Transition) (old new : Shelf)
    → ((before : Book) (events : List Event) (is : Bool) → Made false before events is → events ≡ [])
    → IsDoneTo book Made old new → IsDoneTo book Made old old
still_done book Made old new none done = record {
  naming = refl;
  here = λ history held.
      let more = done.here history held in
      record {
        events = [];
        is = more.is;
        made = subst (λ (events : List Event). Made false (book_after history) events more.is)
            (none (book_after history) more.events more.is more.made) more.made;
        now = held;
      };
  elsewhere = (untouched book old).elsewhere;
  free = (untouched book old).free;
}

module _ {A : Type 0} (work : A → Transition) (book : List ℕ) (old new : Shelf) where
  still_opened : (told : Result A RepositoryFault)
      → ((answer : A) (before : Book) (events : List Event) (is : Bool)
      → work answer false before events is → events ≡ [])
      → IsOpened work book old new told → IsOpened work book old old told
  still_opened (Ok answer) none done = still_done book (work answer) old new (none answer) done
  still_opened (Err shelf.Unseen) none (refused, inl seen) =
      (refused, inl (seen.0, still_done book (work seen.0) old new (none seen.0) seen.1))
  still_opened (Err shelf.Unseen) none (refused, inr same) = (refused, inr (untouched book old))
  still_opened (Err why) none (refused, same) = (refused, untouched book old)

  opened_as : (Other : A → Transition) (told : Result A RepositoryFault)
      → ((answer : A) (before : Book) (events : List Event) (is : Bool)
      → work answer false before events is → Other answer false before events is)
      → IsOpened work book old new told → IsOpened Other book old new told
  opened_as Other (Ok answer) so done = done_as book (work answer) (Other answer) old new (so answer) done
  opened_as Other (Err shelf.Unseen) so (refused, inl seen) =
      (refused, inl (seen.0, done_as book (work seen.0) (Other seen.0) old new (so seen.0) seen.1))
  opened_as Other (Err shelf.Unseen) so (refused, inr same) = (refused, inr same)
  opened_as Other (Err why) so (refused, same) = (refused, same)

  -- books that were there are there still
  still_there : (told : Result A RepositoryFault) → IsThere book old new told
      → IsThere book old old told
  still_there (Ok answer) there = there
  still_there (Err why) there = λ free. free

-- what is told of one behind a client fits what is due to it
behind_fits : (first what : Served) (due : Reply) → Fits what due → Fits (told_behind first what) due
behind_fits served.Cut what due fits = tt
behind_fits first what due fits = fits

-- by a book that no event was made of
one_due : (naming : Naming) (first what : Served) (before : Book) (events : List Event) (is : Bool)
    → events ≡ [] → IsDueBy naming before what
    → AnswersSome naming None (told_behind first what) false before events is
one_due naming first what before events is none it = record {
  bytes = it.bytes;
  front = tt;
  due = it.due;
  left = it.left;
  made = subst (λ (events : List Event). Answers naming it.bytes it.due false before events it.left)
      (sym none) it.made;
  fits = behind_fits first what it.due it.fits;
}

-- work that made no event left the books alone
quiet_done : (book : List ℕ) (Made : Transition) (old new : Shelf)
    → ((before : Book) (events : List Event) (is : Bool) → Made false before events is → events ≡ [])
    → IsDoneTo book Made old new → IsUntouched book old new
quiet_done book Made old new none done = record {
  naming = done.naming;
  here = λ history held.
      let more = done.here history held in
      record {
        events = [];
        is = false;
        made = record { none = refl; same = refl };
        now = subst (λ (events : List Event). new.holds book (events ++ history))
            (none (book_after history) more.events more.is more.made) more.now;
      };
  elsewhere = done.elsewhere;
  free = done.free;
}

quiet_opened : {A : Type 0} (work : A → Transition) (book : List ℕ) (old new : Shelf)
    (told : Result A RepositoryFault)
    → ((answer : A) (before : Book) (events : List Event) (is : Bool)
    → work answer false before events is → events ≡ [])
    → IsOpened work book old new told → IsUntouched book old new
quiet_opened work book old new (Ok answer) none done =
    quiet_done book (work answer) old new (none answer) done
quiet_opened work book old new (Err shelf.Unseen) none (refused, inl seen) =
    quiet_done book (work seen.0) old new (none seen.0) seen.1
quiet_opened work book old new (Err shelf.Unseen) none (refused, inr same) = same
quiet_opened work book old new (Err why) none (refused, same) = same

-- one client was replied to, by the work of an opening
one_replied : {A : Type 0} (work : A → Transition) (book : List ℕ) (old new : Shelf) (what : Served)
    (told : Result A RepositoryFault)
    → ((answer : A) (before : Book) (events : List Event) (is : Bool)
    → work answer false before events is → AnswersSome old.naming None what false before events is)
    → IfErr told (λ why. Fits what (away_reply why))
    → IsOpened work book old new told → Replies book None what old new
one_replied work book old new what (Ok answer) due fits done = record {
  came = Ok what;
  done = done_as book (work answer) (AnswersSome old.naming None what) old new (due answer) done;
  told = refl;
}
one_replied work book old new what (Err shelf.Unseen) due fits (refused, inl seen) = record {
  came = Err shelf.Unseen;
  done = (
    refused,
    inl (
      what,
      done_as book (work seen.0) (AnswersSome old.naming None what) old new (due seen.0) seen.1,
    ),
  );
  told = fits;
}
one_replied work book old new what (Err shelf.Unseen) due fits (refused, inr none) = record {
  came = Err shelf.Unseen;
  done = (refused, inr none);
  told = fits;
}
one_replied work book old new what (Err why) due fits (refused, none) = record {
  came = Err why;
  done = (refused, none);
  told = fits;
}

-- and so it was served
one_serves : (book : List ℕ) (what : Served) (old new : Shelf) → IsUntouched book old new
    → Replies book None what old new → ServesOne book None what old new
one_serves book served.Closed old new none it = none
one_serves book served.ReadFault old new none it = none
one_serves book what old new none it = it

-- nothing is told of it where the place is not seen to hold the books
cut_fits : {A : Type 0} (first what : Served) (told : Result A RepositoryFault)
    → IfErr told (λ why. first ≡ served.Cut)
    → IfErr told (λ why. Fits (told_behind first what) (away_reply why))
cut_fits first what (Ok answer) cut = tt
cut_fits first what (Err why) cut =
    subst (λ first. Fits (told_behind first what) (away_reply why)) (sym cut) tt

-- so it is with each of those behind a client
abbrev AreServed : List ℕ → Shelf → Shelf → Served → List Served → Type 0
AreServed book old new first [] = Unit {0}
AreServed book old new first (what ∷ before) =
    AreServed book old new first before × ServesOne book None (told_behind first what) old new

served_each : {A : Type 0} (work : A → Transition) (book : List ℕ) (old new : Shelf) (first : Served)
    (told : Result A RepositoryFault) (later : List Served)
    → ((answer : A) (before : Book) (events : List Event) (is : Bool)
    → work answer false before events is → events ≡ [])
    → ((answer : A) (before : Book) (events : List Event) (is : Bool)
    → work answer false before events is → AreDueBy old.naming before later)
    → IfErr told (λ why. first ≡ served.Cut)
    → IsOpened work book old new told → AreServed book old new first later
served_each work book old new first told [] none due cut opened = tt
served_each work book old new first told (what ∷ before) none due cut opened = (
  served_each work book old new first told before none
      (λ answer place events is made. (due answer place events is made).0) cut opened,
  one_serves book (told_behind first what) old new
      (quiet_opened work book old new told none opened)
      (one_replied work book old new (told_behind first what) told
      (λ answer place events is made.
      one_due old.naming first what place events is (none answer place events is made)
      (due answer place events is made).1)
      (cut_fits first what told cut) opened),
)

-- books that stay as they are
still_behind : {S : Type 0} (seen : S → Shelf) (book : List ℕ) (old : S) (first : Served)
    (later : List Served) → AreServed book (seen old) (seen old) first later
    → ServesBehind seen book old old (all_behind first later)
still_behind seen book old first [] served = refl
still_behind seen book old first (what ∷ before) served =
    (old, still_behind seen book old first before served.0, served.1)

-- ---- one client, and those behind it

-- a list of some is not empty
some_are : (what : Served) (before : List Served) → what ∷ before ≡ [] → ⊥
some_are what before none = cc

never_led : (told : Result Served Answer) (later : List Served)
    → AreLed (may_lead false told) later → later ≡ []
never_led (Ok what) later led = led
never_led (Err answer) later led = led

-- a client that leads others is told nothing where its place is not seen to hold the books
unseen_cut : (request : WholeRequest) (shown holds : Option (List ℕ)) (what so : Served)
    (before : List Served) (told : Result Served Answer)
    → AreLed (may_lead (is_report request) told) (so ∷ before)
    → EndsUnseen (may_be_early request) shown holds what → what ≡ served.Cut
unseen_cut (wants.Report report kind) shown holds what so before told led ends = ends.0
unseen_cut (wants.Details details) shown holds what so before told led ends = ends.0
unseen_cut request shown holds what so before told led ends =
    absurd (some_are so before (never_led told (so ∷ before) led))

cut_by : (request : WholeRequest) (shown holds : Option (List ℕ)) (what so : Served)
    (before : List Served) (told : Result (Result Served Answer) RepositoryFault)
    → ComesBy (λ (told : Result Served Answer). AreLed (may_lead (is_report request) told) (so ∷ before))
    (so ∷ before ≡ []) told
    → EndsBy (may_be_early request) told shown holds what → IfErr told (λ why. what ≡ served.Cut)
cut_by request shown holds what so before (Ok answer) led ends = tt
cut_by request shown holds what so before (Err shelf.Unseen) (inl led) ends =
    unseen_cut request shown holds what so before led.0 led.1 ends
cut_by request shown holds what so before (Err shelf.Unseen) (inr none) ends =
    absurd (some_are so before none)
cut_by request shown holds what so before (Err why) none ends = absurd (some_are so before none)

-- what was done for the client alone
first_from : (book : List ℕ) (old new : Shelf) (request : WholeRequest)
    (held shown holds : Option (List ℕ)) (told : Result (Result Served Answer) RepositoryFault)
    (what : Served) (later : List Served)
    → IsOpened
    (λ (told : Result Served Answer). AsksAll old.naming request held shown told later) book old new told
    → IsThere book old new told → ComesBy (SendsOpen request held shown) (shown ≡ held) told
    → EndsBy (may_be_early request) told shown holds what
    → IsAnsweredFrom book old new request held holds what
first_from book old new request held shown holds told what later opened there early ends = record {
  told = told;
  shown = shown;
  done = opened_as
      (λ (told : Result Served Answer). AsksAll old.naming request held shown told later) book old new
      (AsksOpen old.naming request held shown) told (λ answer before events is it. it.first) opened;
  there = λ asks. there;
  early = early;
  ends = ends;
}

-- all that is done, by what is told of the client
abbrev all_work : Naming → WholeRequest → Option (List ℕ) → Option (List ℕ) → List Served
    → Result Served Answer → Transition
all_work naming request held shown later told = AsksAll naming request held shown told later

-- where others came behind it, it made no event
all_none : (naming : Naming) (request : WholeRequest) (held shown : Option (List ℕ)) (so : Served)
    (before : List Served) (told : Result Served Answer) (place : Book) (events : List Event)
    (is : Bool) → all_work naming request held shown (so ∷ before) told false place events is
    → events ≡ []
all_none naming request held shown so before told place events is it = it.behind.0

all_due : (naming : Naming) (request : WholeRequest) (held shown : Option (List ℕ)) (so : Served)
    (before : List Served) (told : Result Served Answer) (place : Book) (events : List Event)
    (is : Bool) → all_work naming request held shown (so ∷ before) told false place events is
    → AreDueBy naming place (so ∷ before)
all_due naming request held shown so before told place events is it = it.behind.1

-- and for those behind it
pub answered_from : {S : Type 0} (seen : S → Shelf) (book : List ℕ) (old new : S)
    (request : WholeRequest) (held shown holds : Option (List ℕ))
    (told : Result (Result Served Answer) RepositoryFault) (what : Served) (later : List Served)
    → IsOpened
    (λ (told : Result Served Answer). AsksAll (seen old).naming request held shown told later) book
    (seen old) (seen new) told
    → IsThere book (seen old) (seen new) told
    → ComesBy (SendsOpen request held shown) (shown ≡ held) told
    → ComesBy (λ (told : Result Served Answer). AreLed (may_lead (is_report request) told) later)
    (later ≡ []) told
    → EndsBy (may_be_early request) told shown holds what
    → AreAnsweredFrom seen book old new request held holds what (all_behind what later)
answered_from seen book old new request held shown holds told what [] opened there early led ends =
    record {
      between = new;
      first = first_from book (seen old) (seen new) request held shown holds told what [] opened there
          early ends;
      behind = refl;
    }
answered_from seen book old new request held shown holds told what (so ∷ before) opened there early led
    ends =
    let naming = (seen old).naming in
    let work = all_work naming request held shown (so ∷ before) in
    let none = all_none naming request held shown so before in
    let due = all_due naming request held shown so before in
    let cut = cut_by request shown holds what so before told led ends in
    let still = still_opened work book (seen old) (seen new) told none opened in
    let stay = served_each work book (seen old) (seen old) what told (so ∷ before) none due cut still in
    let now = served_each work book (seen old) (seen new) what told (so ∷ before) none due cut opened in
    record {
      between = old;
      first = first_from book (seen old) (seen old) request held shown holds told what (so ∷ before) still
          (still_there work book (seen old) (seen new) told there) early ends;
      behind = (old, still_behind seen book old what before stay.0, now.1);
    }

-- an answer was begun
unseen_begun : (early : Bool) (shown holds : Option (List ℕ)) (what : Served)
    → EndsUnseen early shown holds what → is_unanswered what ≡ false
unseen_begun true shown holds what ends =
    subst (λ what. is_unanswered what ≡ false) (sym ends.0) refl
unseen_begun false shown holds what ends = sent_begun (refusal Unavailable) shown holds what ends

open_begun : (request : WholeRequest) (held shown : Option (List ℕ)) (what : Served)
    → SendsOpen request held shown (Ok what) → is_unanswered what ≡ false
open_begun (wants.Details details) held shown what it = it.begun
open_begun (wants.Report report kind) held shown what it = it.begun
open_begun request held shown what it = absurd it

pub begun_by : (request : WholeRequest) (held shown holds : Option (List ℕ))
    (told : Result (Result Served Answer) RepositoryFault) (what : Served)
    → ComesBy (SendsOpen request held shown) (shown ≡ held) told
    → EndsBy (may_be_early request) told shown holds what → is_unanswered what ≡ false
begun_by request held shown holds (Ok (Err answer)) what early ends =
    sent_begun (reply_of answer) shown holds what ends
begun_by request held shown holds (Ok (Ok so)) what early ends =
    subst (λ what. is_unanswered what ≡ false) (sym ends.0) (open_begun request held shown so early)
begun_by request held shown holds (Err shelf.Unseen) what early ends =
    unseen_begun (may_be_early request) shown holds what ends
begun_by request held shown holds (Err why) what early ends =
    sent_begun (away_reply why) shown holds what ends

-- ---- what was served

-- what was answered was served
pub served_from : {S : Type 0} (seen : S → Shelf) (old new : S) (book taken : List ℕ) (ended : Bool)
    (held holds : Option (List ℕ)) (what : Served) (later : List Served)
    → is_unanswered what ≡ false
    → IsReplied seen old new book taken ended held holds what later
    → IsServedFrom seen old new book ended held holds what later taken
served_from seen old new book taken ended held holds served.Closed later begun it =
    absurd (true≢false begun)
served_from seen old new book taken ended held holds served.ReadFault later begun it =
    absurd (true≢false begun)
served_from seen old new book taken ended held holds what later begun it = it

-- by the reads that were made of a client, to whom nothing was written after that
pub by_reads : {P S : Type 0} {answers : _} {bytes : _} {remaining : P → Option (List ℕ)}
    {MayAnswer : ReadOutcome P} (seen : S → Shelf) (old new : S) (book : List ℕ) (client : P)
    (held shown holds : Option (List ℕ)) (what : Served) (later : List Served)
    (first last : Source P answers bytes)
    → reader_of first ≡ client → has_failed first ≡ false → has_ended first ≡ false
    → ReadsOn remaining MayAnswer IsDue first last
    (IsServedFrom seen old new book (has_ended last) held shown what later)
    → has_failed last ≡ is_read_fault what → holds ≡ shown
    → IsServedByReads MayAnswer seen old new book client held holds what later
by_reads {MayAnswer} seen old new book client held shown holds what later first last is unfailed unended
    it failed same =
    let between = it.between in
    let ended = between.ended ∙ ap (λ ended. ended_after ended it.reads) unended in
    record {
      reads = it.reads;
      due = subst (λ reader. AreDue MayAnswer IsDue reader it.reads) is between.due;
      gave = subst
          (λ ended. IsServedFrom seen old new book ended held holds what later (bytes_read it.reads))
          ended
          (subst
          (λ holds. IsServedFrom seen old new book (has_ended last) held holds what later
          (bytes_read it.reads)) (sym same) it.gave);
      failed = sym failed ∙ between.failed ∙ ap (λ failed. failed_after failed it.reads) unfailed;
    }

-- ---- what that did to the books

-- the status that was told is the reply's
sent_fits : (reply : Reply) (held holds : Option (List ℕ)) (what : Served)
    → IsSentAsRead reply held holds what → Fits what reply
sent_fits reply held holds (served.Answered status) sent = sent.0
sent_fits reply held holds what sent = tt

whole_fits : (reply : Reply) (held holds : Option (List ℕ)) (what : Served)
    → IsSent reply held holds what → Fits what reply
whole_fits reply held holds (served.Answered status) sent = sent.0
whole_fits reply held holds what sent = tt

open_fits : (request : WholeRequest) (reply : Reply) (held holds : Option (List ℕ)) (what : Served)
    → IsSentOpen request reply held holds what → Fits what reply
open_fits (wants.Details details) reply held holds what sent =
    sent_fits reply held holds what sent.1
open_fits (wants.Report report kind) reply held holds what sent =
    whole_fits reply held holds what sent.1
open_fits request reply held holds what sent = absurd sent

-- what reads took of a client came first of what it sends
pub front_taken : (sent first left : Option (List ℕ)) (bytes : List ℕ) → Consumes first left bytes
    → first ≡ sent → IsFrontOf sent bytes
front_taken None first left bytes came same = tt
front_taken (Some all) first left bytes came same =
    of_left left (subst (λ first. Consumes first left bytes) same came)
  where
    of_left : (left : Option (List ℕ)) → Consumes (Some all) left bytes
        → (rest : List ℕ) × (all ≡ bytes ++ rest)
    of_left None never = absurd never
    of_left (Some rest) is = (rest, is)

module _ (book : List ℕ) (old new : Shelf) (bytes : List ℕ) (request : WholeRequest)
    (asks : AreAsking bytes (request_seen request)) (sent : Option (List ℕ))
    (front : IsFrontOf sent bytes) (held shown holds : Option (List ℕ)) (what : Served) where
  -- a request that was answered answers its bytes
  some_answers : (so : Served) (due : Reply) (before : Book) (events : List Event) (left is : Bool)
      → Fits so due → AnswersRequest old.naming (request_seen request) due false before events left
      → AnswersSome old.naming sent so false before events is
  some_answers so due before events left is fits made = record {
    bytes = bytes;
    front = front;
    due = due;
    left = left;
    made = bytes_answered old.naming bytes (request_seen request) due asks false before events left
        made;
    fits = fits;
  }

  due_answers : (so : Served) (answer : Answer) → Fits so (reply_of answer)
      → IsDoneTo book (AsksOpen old.naming request held shown (Err answer)) old new
      → IsDoneTo book (AnswersSome old.naming sent so) old new
  due_answers so answer fits done =
      done_as book (AsksOpen old.naming request held shown (Err answer))
      (AnswersSome old.naming sent so) old new
      (λ before events is made. some_answers so (reply_of answer) before events is is fits made) done

  -- so with an answer that was sent while the books were open
  sent_answers : (so read : Served)
      → ((due : Reply) → IsSentOpen request due held shown read → Fits so due)
      → IsDoneTo book (AsksOpen old.naming request held shown (Ok read)) old new
      → IsDoneTo book (AnswersSome old.naming sent so) old new
  sent_answers so read fits done =
      done_as book (AsksOpen old.naming request held shown (Ok read))
      (AnswersSome old.naming sent so) old new
      (λ before events is it. some_answers so it.reply before events it.left is
      (fits it.reply it.sent) it.answer)
      done

  -- no answer was told
  untold_answers : (told : Result Served Answer)
      → IsDoneTo book (AsksOpen old.naming request held shown told) old new
      → IsDoneTo book (AnswersSome old.naming sent served.Cut) old new
  untold_answers (Err answer) done = due_answers served.Cut answer tt done
  untold_answers (Ok read) done = sent_answers served.Cut read (λ due early. tt) done

  unseen_fits : (early : Bool) → EndsUnseen early shown holds what
      → Fits what (refusal Unavailable)
  unseen_fits true ends = subst (λ what. Fits what (refusal Unavailable)) (sym ends.0) tt
  unseen_fits false ends = whole_fits (refusal Unavailable) shown holds what ends

  pub request_done : (told : Result (Result Served Answer) RepositoryFault)
      → IsOpened (AsksOpen old.naming request held shown) book old new told
      → EndsBy (may_be_early request) told shown holds what → Replies book sent what old new
  request_done (Ok (Err answer)) done ends = record {
    came = Ok what;
    done = due_answers what answer (whole_fits (reply_of answer) shown holds what ends) done;
    told = refl;
  }
  request_done (Ok (Ok read)) done ends = record {
    came = Ok what;
    done = sent_answers what read
        (λ due early. subst (λ what. Fits what due) (sym ends.0)
        (open_fits request due held shown read early)) done;
    told = refl;
  }
  request_done (Err shelf.Unseen) (refused, inl seen) ends = record {
    came = Err shelf.Unseen;
    done = (refused, inl (served.Cut, untold_answers seen.0 seen.1));
    told = unseen_fits (may_be_early request) ends;
  }
  request_done (Err shelf.Unseen) (refused, inr none) ends = record {
    came = Err shelf.Unseen;
    done = (refused, inr none);
    told = unseen_fits (may_be_early request) ends;
  }
  request_done (Err why) (refused, none) ends = record {
    came = Err why;
    done = (refused, none);
    told = whole_fits (away_reply why) shown holds what ends;
  }

replied_done : (book : List ℕ) (old new : Shelf) (taken : List ℕ) (ended : Bool)
    (request : WholeRequest) (sent held holds : Option (List ℕ)) (what : Served)
    → IsFrontOf sent taken → IsAsking ended taken request
    → IsAnsweredFrom book old new request held holds what → Replies book sent what old new
replied_done book old new taken ended request sent held holds what front asks it =
    request_done book old new (taken ++ []) request (asks [] (λ _. refl)) sent
    (subst (IsFrontOf sent) (sym (append-nil taken)) front) held it.shown holds what it.told it.done
    it.ends

module _ {S : Type 0} (seen : S → Shelf) (old new : S) (book taken : List ℕ) (ended : Bool)
    (sent held holds : Option (List ℕ)) (front : IsFrontOf sent taken) where
  -- who is not answered leaves all alone
  none_served : (later : List Served) → new ≡ old → later ≡ []
      → (between : S) × IsUntouched book (seen old) (seen between)
      × ServesBehind seen book between new later
  none_served later same none = (
    old,
    untouched book (seen old),
    subst (λ (later : List Served). ServesBehind seen book old new later) (sym none) same,
  )

  -- a client was served, and then those behind it
  served_one : (what : Served) (later : List Served)
      → IsServedFrom seen old new book ended held holds what later taken
      → (is_unanswered what ≡ true → new ≡ old) → (is_unanswered what ≡ true → later ≡ [])
      → (between : S) × ServesOne book sent what (seen old) (seen between)
      × ServesBehind seen book between new later
  served_one served.Closed later it same none = none_served later (same refl) (none refl)
  served_one served.ReadFault later it same none = none_served later (same refl) (none refl)
  served_one what later it same none = (
    it.answered.between,
    replied_done book (seen old) (seen it.answered.between) taken ended it.request sent held holds what
        front it.asks it.answered.first,
    it.answered.behind,
  )

  pub attends : (attended : Attended)
      → IsServedFrom seen old new book ended held holds attended.served (later_of attended) taken
      → (is_unanswered attended.served ≡ true → new ≡ old)
      → (is_unanswered attended.served ≡ true → later_of attended ≡ [])
      → LeavesLog seen book old new attended.log → Attends seen book sent old new attended
  attends attended it same none log =
      let all = served_one attended.served (later_of attended) it same none in
      record { between = all.0; done = all.1; behind = all.2; log = log }

-- nobody behind a client that is not there
pub alone_attended : {S : Type 0} (seen : S → Shelf) (book : List ℕ) (place : S) (attended : Attended)
    → attended.served ≡ served.ReadFault → later_of attended ≡ [] → attended.log ≡ None
    → Attends seen book None place place attended
alone_attended seen book place attended is none log = record {
  between = place;
  done = subst (λ what. ServesOne book None what (seen place) (seen place)) (sym is)
      (untouched book (seen place));
  behind = subst (λ (later : List Served). ServesBehind seen book place place later) (sym none) refl;
  log = subst (LeavesLog seen book place place) (sym log) refl;
}

-- what was not answered has no status
pub status_of : (what : Served) → is_answered what ≡ true → (status : ℕ) × (what ≡ served.Answered status)
status_of (served.Answered status) is = (status, refl)
status_of what is = absurd (true≢false (sym is))
