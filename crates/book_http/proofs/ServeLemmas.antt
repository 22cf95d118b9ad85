-- One request, from what its bytes ask to what was sent.
use Rattle.std.proofs.Common.{◌≡◌, ◌∙◌, ℕ, Bool, true, false, List, [], ◌++◌, length, take, refl}
use Rattle.std.proofs.Common.{sym, ap, subst, inl, inr, append-nil, if◌then◌else◌, nat_lt}
use Rattle.std.proofs.Common.{true≢false}
use Rattle.streams.specs.InputOutput.{Output}
use Rattle.book_model.specs.Words.{Naming}
use Rattle.book_core.specs.Words.{Books, Seen, IsTransition, NoEvent}
use Rattle.book_core.proofs.TransitionLemmas.{Implies}
use Rattle.book_http.specs.declared.asked.Asked.{Asked}
use Rattle.book_http.specs.declared.served.Served.{Served}
use Rattle.book_http.specs.declared.status.Status.TheVariants.{BadRequest}
use Rattle.book_http.proofs.Words.{no_work, work_as, DetailReport, Answers, AnswersDetails}
use Rattle.book_http.proofs.Words.{RefusesRequest, a_head, done, no_head, no_memory, asked, Reply}
use Rattle.book_http.proofs.Words.{refusal, AnswersRequest, IsAsking, RequestSeen, Settles}
use Rattle.book_http.proofs.Words.{WantsDetails, WantsImport, WantsWhatIf, WholeRequest, headed}
use Rattle.book_http.proofs.Words.{headless, request_seen, wanted_by, AnswersLong, SendsAsRead}
use Rattle.book_http.proofs.Words.{SendsReplyAsRead, is_unanswered}
use Rattle.book_http.specs.Requested.{AreAsking}
use Rattle.book_http.specs.Served.{AsksDetails, IsReplied, IsSent, IsServed, IsStreamed}
use Rattle.book_http.specs.Served.{ServesAsked}
use Rattle.book_http.proofs.LawLemmas.{request_done, sent_done}
use Rattle.book_http.specs.declared.asked.Asked.TheVariants as asks
use Rattle.book_http.specs.declared.served.Served.TheVariants as served

-- ---- what answers a request answers its bytes

-- nothing is done, and a refusal is the reply
pub refuses : (seen : Seen) (reply : Reply) → IsTransition seen seen (RefusesRequest reply reply)
refuses seen reply =
    work_as seen seen NoEvent (RefusesRequest reply reply)
    (λ was before events is none. record { none = none; replied = refl }) (no_work seen)

-- what the bytes ask
pub bytes_answered : (naming : Naming) (bytes : List ℕ) (request : RequestSeen) (reply : Reply)
    → AreAsking bytes request
    → Implies (AnswersRequest naming request reply) (Answers naming bytes reply)
bytes_answered naming bytes request reply (headless some never same) =
    λ was before events is made. no_head some never
    (subst (λ request. AnswersRequest naming request reply was before events is) same made)
bytes_answered naming bytes request reply (headed head behind stands (inl same)) =
    λ was before events is made. a_head head behind stands
    (done
    (subst (λ request. AnswersRequest naming request reply was before events is) same made))
bytes_answered naming bytes request reply (headed head behind stands (inr same)) =
    λ was before events is made. a_head head behind stands
    (no_memory
    (subst (λ request. AnswersRequest naming request reply was before events is) same made))

-- ---- what was served

-- a reply that was sent was served
reply_served : (books : Books) (taken : List ℕ) (ended : Bool) (output : Output) (what : Served)
    → IsReplied books taken ended output what → IsServed books taken ended output what
reply_served books taken ended output (served.Answered status) it = inl it
reply_served books taken ended output served.WriteFault it = inl it
reply_served books taken ended output what it = absurd it.sent

-- so was a reply to what was asked
pub request_served : (books : Books) (taken : List ℕ) (ended : Bool) (output : Output)
    (request : WholeRequest) (reply : Reply) (what : Served) → IsAsking ended taken request
    → IsTransition books.old books.new
    (AnswersRequest books.old.naming (request_seen request) reply)
    → IsSent reply output.old.holds output.new.holds what
    → IsServed books taken ended output what
request_served books taken ended output request reply what asking work sent =
    let naming = books.old.naming in
    reply_served books taken ended output what (record {
      reply = reply;
      answer = λ more none.
          request_done books.old books.new (taken ++ more) reply
          (work_as books.old books.new (AnswersRequest naming (request_seen request) reply)
          (Answers naming (taken ++ more) reply)
          (bytes_answered naming (taken ++ more) (request_seen request) reply (asking more none))
          work);
      sent = sent;
    })

-- ---- details

abbrev are_details : RequestSeen → Bool
are_details (WantsDetails details) = true
are_details request = false

abbrev details_or : DetailReport → RequestSeen → DetailReport
details_or other (WantsDetails details) = details
details_or other request = other

-- nothing with a body is details
no_details : (short : Bool) (reply : Reply) (other : RequestSeen) → are_details other ≡ false
    → are_details (if short then Settles reply else other) ≡ false
no_details true reply other is = refl
no_details false reply other is = is

-- who asks for details asks for them by the head alone
details_wanted : (wanted : Asked ℕ) (behind : List ℕ) (details : DetailReport)
    → WantsDetails details ≡ wanted_by wanted behind → wanted ≡ asks.Details details
details_wanted (asks.Details other) behind details same =
    ap asks.Details (sym (ap (details_or details) same))
details_wanted (asks.Settled due) behind details same = absurd (true≢false (ap are_details same))
details_wanted (asks.Report report kind) behind details same =
    absurd (true≢false (ap are_details same))
details_wanted (asks.WhatIf what_if size) behind details same =
    absurd (true≢false (ap are_details same
    ∙ no_details (nat_lt (length behind) size) (refusal BadRequest)
    (WantsWhatIf what_if (take size behind)) refl))
details_wanted (asks.Import layout size) behind details same =
    absurd (true≢false (ap are_details same
    ∙ no_details (nat_lt (length behind) size) (refusal BadRequest)
    (WantsImport layout (take size behind)) refl))

details_begin : (bytes : List ℕ) (details : DetailReport) → AreAsking bytes (WantsDetails details)
    → AsksDetails bytes details
details_begin bytes details (headless some never same) =
    absurd (true≢false (ap are_details same))
details_begin bytes details (headed head behind stands (inl same)) = record {
  head = head;
  behind = behind;
  stands = stands;
  asks_them = details_wanted (asked head) behind details same;
}
details_begin bytes details (headed head behind stands (inr same)) =
    absurd (true≢false (ap are_details same))

-- details that were sent while they were read were asked for
details_streamed : (books : Books) (taken : List ℕ) (ended : Bool) (output : Output)
    (details : DetailReport) (what : Served) → IsAsking ended taken (asks.Details details)
    → IsTransition books.old books.new
    (SendsReplyAsRead (AnswersLong (AnswersDetails books.old.naming details)) output.old.holds
    output.new.holds what)
    → IsStreamed books taken ended output what
details_streamed books taken ended output details what asking sends =
    let naming = books.old.naming in
    let held = output.old.holds in
    let holds = output.new.holds in
    record {
      details = details;
      begins = subst (λ bytes. AsksDetails bytes details) (append-nil taken)
          (details_begin (taken ++ []) details (asking [] (λ _. refl)));
      done = λ more none.
          sent_done books.old books.new (taken ++ more) held holds what
          (work_as books.old books.new
          (SendsReplyAsRead (AnswersLong (AnswersDetails naming details)) held holds what)
          (SendsAsRead naming (taken ++ more) held holds what)
          (λ was before events is sent. record {
            reply = sent.reply;
            answer = (
              bytes_answered naming (taken ++ more) (WantsDetails details) sent.reply
                  (asking more none) was before events was sent.answer.0,
              sent.answer.1,
            );
            sent = sent.sent;
            stands = sent.stands;
          })
          sends);
    }

-- and were served so
stream_served : (books : Books) (taken : List ℕ) (ended : Bool) (output : Output) (what : Served)
    → is_unanswered what ≡ false → IsStreamed books taken ended output what
    → IsServed books taken ended output what
stream_served books taken ended output served.Closed begun it = absurd (true≢false begun)
stream_served books taken ended output served.ReadFault begun it = absurd (true≢false begun)
stream_served books taken ended output what begun it = inr it

-- whatever was asked
pub asked_served : (books : Books) (taken : List ℕ) (ended : Bool) (output : Output)
    (request : WholeRequest) (what : Served) → IsAsking ended taken request
    → is_unanswered what ≡ false → ServesAsked books request output what
    → IsServed books taken ended output what
asked_served books taken ended output request what asking begun (inl (reply, made, sent)) =
    request_served books taken ended output request reply what asking made sent
asked_served books taken ended output request what asking begun (inr (details, same, sends)) =
    stream_served books taken ended output what begun
    (details_streamed books taken ended output details what
    (subst (λ request. IsAsking ended taken request) same asking) sends)
