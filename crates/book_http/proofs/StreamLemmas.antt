-- Details, whose text is sent while it is read.
use Rattle.std.proofs.Common.{◌≡◌, ◌∙◌, ℕ, ◌<◌, ◌≤◌, Bool, false, List, [], ◌++◌, length, take}
use Rattle.std.proofs.Common.{refl, sym, ap, subst, arith, ◌||◌, Option, None, Result, Ok, Err}
use Rattle.std.proofs.Common.{length-append, true≢false}
use Rattle.book_model.proofs.Std.{take-append-le}
use Rattle.book_model.specs.Words.{Naming, after_all}
use Rattle.book_core.specs.Words.{Calls, IsCall, Reopens, Seen, IsTransition, NoEvent, Then}
use Rattle.book_core.specs.Words.{Transition}
use Rattle.book_lists.specs.Writing.{WritesUntil}
use Rattle.book_lists.proofs.CursorLemmas.{refused_back, shown_back}
use Rattle.book_lists.proofs.ReadingLemmas.{fault_tells, read_as}
use Rattle.book_http.specs.declared.served.Served.{Served}
use Rattle.book_http.specs.declared.status.Status.TheVariants.{Done}
use Rattle.book_http.proofs.Words.{Appends, Appends-trans, LedgerFault, no_work, work_as, work_then}
use Rattle.book_http.proofs.Words.{ReportFault, Write, Memory, Ledger, WritesAnswerUntil}
use Rattle.book_http.proofs.Words.{WritesUntilOrRefuses, refusal_in, fault_alike, goes_on}
use Rattle.book_http.proofs.Words.{DetailReport, shown_by, detail_answer, detail_length_outcome}
use Rattle.book_http.proofs.Words.{detail_text_outcome, Text, response_outcome, BodyKind}
use Rattle.book_http.proofs.Words.{AnswersDetails, form_kind, most_gathered, answer_head, Reply}
use Rattle.book_http.proofs.Words.{AnswersLong, IsMeasured, SendsReplyAsRead, is_unanswered}
use Rattle.book_http.specs.Replies.{success}
use Rattle.book_http.specs.Served.{IsSentAsRead, SendsDetails, is_cut, served_as}
use Rattle.book_http.proofs.AnswerLemmas.{front_behind}
use Rattle.book_http.specs.declared.served.Served.TheVariants as served

-- ---- what measures details

-- where they have no length, they have no text
pub text_refused : (wanted : DetailReport) (old new : Seen) (fault : LedgerFault)
    → IsCall (λ size. size) old new (Err fault) (detail_length_outcome wanted old.naming)
    → IsCall (λ told. told) old new (Err fault)
    (response_outcome Text (detail_text_outcome wanted old.naming))
text_refused wanted old new fault call =
    read_as (λ book. refl) (λ book. refl) (fault_alike fault)
    (λ book. fault_tells (λ size. size) (λ told. told) fault
    (λ is. ap (shown_by Text) (refused_back length (detail_answer wanted old.naming book) fault is)))
    call

-- ---- what sends them

-- a prefix of the head is one of the whole
begun_before : (held holds : Option (List ℕ)) (first next : List ℕ) (count : ℕ)
    → count < length first → Appends held holds (take count first)
    → (n : ℕ) × (n < length (first ++ next)) × Appends held holds (take n (first ++ next))
begun_before held holds first next count few front =
    let within : count ≤ length first = omega arith in (
      count,
      rw length-append (omega arith),
      subst (Appends held holds) (sym (take-append-le count first next within)) front,
    )

-- behind its head the text was written, or a prefix of it
sent_behind : (kind : BodyKind) (text : List ℕ) (held between holds : Option (List ℕ))
    (told : Result (Unit {0}) ReportFault)
    → Appends held between (answer_head Done kind None (length text))
    → WritesUntil text between holds told
    → IsSentAsRead (success kind text) held holds (served_as told)
sent_behind kind text held between holds (Ok written) first whole =
    (refl, Appends-trans held between holds _ _ first whole)
sent_behind kind text held between holds (Err Write) first front =
    front_behind held between holds _ text front.0 front.1 first front.2
sent_behind kind text held between holds (Err Memory) first front =
    front_behind held between holds _ text front.0 front.1 first front.2
sent_behind kind text held between holds (Err (Ledger fault)) first front =
    front_behind held between holds _ text front.0 front.1 first front.2

-- books that did not fail in the text stay as they were
stands_as : (told : Result (Unit {0}) ReportFault) (was is : Bool)
    → Reopens (refusal_in told) was is → is_cut (served_as told) ≡ false → is ≡ was
stands_as (Ok written) was is reopens whole = goes_on tt was is reopens
stands_as (Err Write) was is reopens whole = goes_on tt was is reopens
stands_as (Err Memory) was is reopens whole = absurd (true≢false whole)
stands_as (Err (Ledger fault)) was is reopens whole = absurd (true≢false whole)

-- the head was written, and then the text, or a prefix of it
pub details_sent : (wanted : DetailReport) (size : ℕ) (old new : Seen)
    (held between holds : Option (List ℕ)) (told : Result (Unit {0}) ReportFault) (what : Served)
    → what ≡ served_as told
    → Appends held between (answer_head Done (form_kind wanted.form) None size)
    → IsTransition old new (WritesAnswerUntil (detail_answer wanted) old.naming between holds told)
    → IsTransition old new (SendsDetails wanted size old.naming held holds what)
details_sent wanted size old new held between holds told what same first wrote =
    let kind = form_kind wanted.form in
    work_as old new (WritesAnswerUntil (detail_answer wanted) old.naming between holds told)
    (SendsDetails wanted size old.naming held holds what)
    (λ was before events is work. record {
      none = work.none;
      sent = λ text answered sized.
          subst (λ what. IsSentAsRead (success kind text) held holds what) (sym same)
          (sent_behind kind text held between holds told
          (subst (λ size. Appends held between (answer_head Done kind None size)) (sym sized) first)
          (subst (λ said. WritesUntilOrRefuses said between holds told) answered work.written).0);
      stands = λ whole. stands_as told was is work.reopens (ap is_cut (sym same) ∙ whole);
    })
    wrote

-- or a prefix of the head alone
pub head_sent : (wanted : DetailReport) (size : ℕ) (seen : Seen) (held holds : Option (List ℕ))
    (count : ℕ) → count < length (answer_head Done (form_kind wanted.form) None size)
    → Appends held holds (take count (answer_head Done (form_kind wanted.form) None size))
    → IsTransition seen seen (SendsDetails wanted size seen.naming held holds served.WriteFault)
head_sent wanted size seen held holds count few front =
    work_as seen seen NoEvent (SendsDetails wanted size seen.naming held holds served.WriteFault)
    (λ was before events is nothing. record {
      none = nothing.none;
      sent = λ text answered sized.
          subst (λ size. (n : ℕ)
          × (n < length (answer_head Done (form_kind wanted.form) None size ++ text))
          × Appends held holds (take n (answer_head Done (form_kind wanted.form) None size ++ text)))
          (sym sized)
          (begun_before held holds (answer_head Done (form_kind wanted.form) None size) text count few
          front);
      stands = λ whole. nothing.same;
    })
    (no_work seen)

-- and what was begun is no request without an answer
pub is_begun : (told : Result (Unit {0}) ReportFault) → is_unanswered (served_as told) ≡ false
is_begun (Ok written) = refl
is_begun (Err Write) = refl
is_begun (Err Memory) = refl
is_begun (Err (Ledger fault)) = refl

-- details were answered by a text of so many bytes
abbrev pub AnswersSized : Naming → DetailReport → ℕ → Reply → Transition
AnswersSized naming wanted size reply = λ was before events is.
    AnswersDetails naming wanted reply was before events is × (length reply.body ≡ size)

-- details were measured and then sent: all by one book
pub sized_sent : (old mid new : Seen) (details : DetailReport) (size : ℕ)
    (held holds : Option (List ℕ)) (what : Served) → IsMeasured old mid details size
    → IsTransition mid new (SendsDetails details size mid.naming held holds what)
    → IsTransition old new (SendsReplyAsRead (AnswersSized old.naming details size) held holds what)
sized_sent old mid new details size held holds what measured sends =
    let Measuring : Transition =
    Calls (λ size. size) (detail_length_outcome details old.naming) (Ok size) in
    let Sending : Transition = SendsDetails details size old.naming held holds what in
    work_as old new (Then Measuring Sending)
    (SendsReplyAsRead (AnswersSized old.naming details size) held holds what)
    (λ was before events is both.
    let said = shown_back length (detail_answer details old.naming before) size
    both.first.makes.0 in
    let unfailed : false ≡ was = both.first.reopens.reopen in
    let early : both.early ≡ [] = both.first.makes.1 in
    let middle : after_all both.early before ≡ before =
    ap (λ events. after_all events before) early in
    record {
      reply = success (form_kind details.form) said.0;
      answer = (
        record {
          told = Ok (Text said.0);
          made = record {
            makes = (
              ap (shown_by Text) said.1,
              both.all ∙ ap (λ late. late ++ both.early) both.next.none ∙ early,
            );
            reopens = record {
              reopen = unfailed;
              store = sym unfailed ∙ ap (λ b. b || false) unfailed;
            };
          };
          replied = refl;
        },
        said.2,
      );
      sent = both.next.sent said.0 (ap (detail_answer details old.naming) middle ∙ said.1) said.2;
      stands = λ whole.
          both.next.stands whole ∙ goes_on size was both.between both.first.reopens;
    })
    (work_then old mid new Measuring Sending measured
    (subst (λ naming. IsTransition mid new (SendsDetails details size naming held holds what))
    measured.naming sends))

-- so long ones were sent
pub measured_sent : (old mid new : Seen) (details : DetailReport) (size : ℕ)
    (held holds : Option (List ℕ)) (what : Served) → most_gathered < size
    → IsMeasured old mid details size
    → IsTransition mid new (SendsDetails details size mid.naming held holds what)
    → IsTransition old new
    (SendsReplyAsRead (AnswersLong (AnswersDetails old.naming details)) held holds what)
measured_sent old mid new details size held holds what long measured sends =
    work_as old new (SendsReplyAsRead (AnswersSized old.naming details size) held holds what)
    (SendsReplyAsRead (AnswersLong (AnswersDetails old.naming details)) held holds what)
    (λ was before events is it. record {
      reply = it.reply;
      answer = (it.answer.0, subst (λ size. most_gathered < size) (sym it.answer.1) long);
      sent = it.sent;
      stands = it.stands;
    })
    (sized_sent old mid new details size held holds what measured sends)
