-- Details that are gathered before they are sent.
use Rattle.std.proofs.Common.{◌≡◌, ◌∙◌, ◌≤◌, ℕ, true, List, [], ◌++◌, refl, sym, ap, subst, inl}
use Rattle.std.proofs.Common.{inr, Some, Result, Ok, Err, append-nil, length, IfOk, true≢false}
use Rattle.book_model.specs.Words.{after_all}
use Rattle.book_core.specs.Words.{Calls, Seen, IsTransition, Then, Transition}
use Rattle.book_lists.specs.Streamed.{is_hindrance}
use Rattle.book_lists.proofs.ReadingLemmas.{IsAlike, Tells, made, reopens_alike}
use Rattle.book_lists.proofs.WritingLemmas.{same_value}
use Rattle.book_http.specs.declared.status.Status.TheVariants.{Done}
use Rattle.book_http.proofs.Words.{LedgerFault, work_as, work_then, ReportFault, Write, Memory}
use Rattle.book_http.proofs.Words.{Ledger, WritesAnswerUntil, WritesUntilOrRefuses, refusal_in}
use Rattle.book_http.proofs.Words.{fault_alike, goes_on, DetailReport, shown_by, detail_answer}
use Rattle.book_http.proofs.Words.{detail_length_outcome, detail_text_outcome, Response, Text}
use Rattle.book_http.proofs.Words.{response_outcome, BodyKind, AnswersDetails, form_kind, gathered}
use Rattle.book_http.proofs.Words.{most_gathered, office_reply, Reply, IsMeasured}
use Rattle.book_http.specs.Served.{AreShort}
use Rattle.book_model.specs.declared.fault.LedgerFault.TheVariants as fault

-- what may hinder any report tells nothing of it
hindered_tells : (why : LedgerFault) (answer : Result Response LedgerFault)
    → is_hindrance (Ledger why) ≡ true
    → Tells {V = Response} (λ told. told) (Err why) answer
hindered_tells fault.Memory answer is = tt
hindered_tells fault.Store answer is = tt
hindered_tells fault.Reopen answer is = tt
hindered_tells why answer is = absurd (true≢false (sym is))

-- a refusal tells itself
refused_tells : (why : LedgerFault) → Tells {V = Response} (λ told. told) (Err why) (Err why)
refused_tells fault.Memory = tt
refused_tells fault.Store = tt
refused_tells fault.Reopen = tt
refused_tells why = refl

-- the fault that a report's fault stands for, or another
abbrev fault_or : LedgerFault → ReportFault → LedgerFault
fault_or other (Ledger why) = why
fault_or other why = other

-- what was written into empty memory is what the book answers
told_gathered : (said : Result (List ℕ) LedgerFault) (told : Result (Unit {0}) ReportFault)
    (front text : List ℕ) → front ≡ [] → WritesUntilOrRefuses said (Some front) (Some text) told
    → Tells (λ told. told) (gathered told text) (shown_by Text said)
told_gathered (Ok shown) (Ok done) front text none it =
    ap (λ text. Ok (Text text)) (sym (it.0 ∙ ap (λ front. front ++ shown) none))
told_gathered (Err refused) (Ok done) front text none it = absurd it.1
told_gathered said (Err Write) front text none it = tt
told_gathered said (Err Memory) front text none it = tt
told_gathered (Ok shown) (Err (Ledger why)) front text none it =
    hindered_tells why (Ok (Text shown)) it.1
told_gathered (Err refused) (Err (Ledger why)) front text none it = elim (it.1) [
  | inl same ↦ subst (λ answered. Tells {V = Response} (λ told. told) (Err why) (Err answered))
      (ap (fault_or why) same) (refused_tells why)
  | inr hinders ↦ hindered_tells why (Err refused) hinders
]

-- a ledger is to be reopened or not, by either
gathered_alike : (told : Result (Unit {0}) ReportFault) (text : List ℕ)
    → IsAlike (refusal_in told) (gathered told text)
gathered_alike (Ok done) text = record { reopen = refl; store = refl }
gathered_alike (Err Write) text = record { reopen = refl; store = refl }
gathered_alike (Err Memory) text = record { reopen = refl; store = refl }
gathered_alike (Err (Ledger why)) text = fault_alike why

-- so it answers the request
pub gathered_answered : (wanted : DetailReport) (old new : Seen)
    (told : Result (Unit {0}) ReportFault) (front text : List ℕ) (reply : Reply) → front ≡ []
    → reply ≡ office_reply (form_kind wanted.form) (gathered told text)
    → IsTransition old new
    (WritesAnswerUntil (detail_answer wanted) old.naming (Some front) (Some text) told)
    → IsTransition old new (AnswersDetails old.naming wanted reply)
gathered_answered wanted old new told front text reply none replied wrote =
    work_as old new
    (WritesAnswerUntil (detail_answer wanted) old.naming (Some front) (Some text) told)
    (AnswersDetails old.naming wanted reply)
    (λ was before events is work. record {
      told = gathered told text;
      made = record {
        makes = made (λ told. told) (response_outcome Text (detail_text_outcome wanted old.naming) before)
            (gathered told text) events refl work.none
            (told_gathered (detail_answer wanted old.naming before) told front text none
            work.written);
        reopens = reopens_alike (refusal_in told) (gathered told text) was is
            (gathered_alike told text) work.reopens;
      };
      replied = replied;
    })
    wrote

-- also after they were measured: both by one book
pub measured_answered : (old mid new : Seen) (wanted : DetailReport) (size : ℕ) (reply : Reply)
    → IsMeasured old mid wanted size
    → IsTransition mid new (AnswersDetails mid.naming wanted reply)
    → IsTransition old new (AnswersDetails old.naming wanted reply)
measured_answered old mid new wanted size reply measured answers =
    let Measuring : Transition =
    Calls (λ size. size) (detail_length_outcome wanted old.naming) (Ok size) in
    let Answering : Transition = AnswersDetails old.naming wanted reply in
    work_as old new (Then Measuring Answering) Answering
    (λ was before events is both.
    let early : both.early ≡ [] = both.first.makes.1 in
    let all : both.late ≡ events =
    sym (both.all ∙ ap (λ early. both.late ++ early) early ∙ append-nil both.late) in
    subst (λ stood. Answering stood before events is)
    (goes_on size was both.between both.first.reopens)
    (subst (λ events. Answering both.between before events is) all
    (subst (λ book. Answering both.between book both.late is)
    (ap (λ events. after_all events before) early) both.next)))
    (work_then old mid new Measuring Answering measured
    (subst (λ naming. IsTransition mid new (AnswersDetails naming wanted reply)) measured.naming
    answers))

-- ---- how long they are

-- what the ledger refused is refused
pub refused_status : (kind : BodyKind) (why : LedgerFault)
    → (office_reply kind (Err why)).status ≡ Done → ⊥
refused_status kind fault.NoSuchPeriod done = cc
refused_status kind fault.NoSuchTariff done = cc
refused_status kind fault.NoSuchRecord done = cc
refused_status kind fault.NoSuchCentre done = cc
refused_status kind (fault.TariffRefused refused) done = cc
refused_status kind fault.Full done = cc
refused_status kind why done = cc

-- a text that was measured is as long as was found
shown_short : (said : Result (List ℕ) LedgerFault) (size : ℕ) → shown_by length said ≡ Ok size
    → size ≤ most_gathered → IfOk said (λ text. length text ≤ most_gathered)
shown_short (Ok text) size is few = subst (λ n. n ≤ most_gathered) (sym (same_value is)) few
shown_short (Err why) size is few = tt

-- details that were measured and found short are so, by the book that answers them
pub measured_short : (old mid new : Seen) (wanted : DetailReport) (size : ℕ) (reply : Reply)
    → size ≤ most_gathered → IsMeasured old mid wanted size
    → IsTransition mid new (AnswersDetails mid.naming wanted reply)
    → IsTransition old new (AreShort old.naming wanted)
measured_short old mid new wanted size reply few measured answers =
    let Measuring : Transition =
    Calls (λ size. size) (detail_length_outcome wanted old.naming) (Ok size) in
    let Answering : Transition = AnswersDetails old.naming wanted reply in
    work_as old new (Then Measuring Answering) (AreShort old.naming wanted)
    (λ was before events is both.
    shown_short (detail_answer wanted old.naming before) size both.first.makes.0 few)
    (work_then old mid new Measuring Answering measured
    (subst (λ naming. IsTransition mid new (AnswersDetails naming wanted reply)) measured.naming
    answers))
