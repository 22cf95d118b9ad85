-- What is made of an answer that was read.
use Rattle.std.proofs.Common.{◌≡◌, ◌∙◌, refl, sym, ap, subst, Option, ℕ, ℤ, Result, Ok, Err}
use Rattle.book_model.specs.Words.{Book, no_event, Outcome}
use Rattle.book_core.specs.Words.{Seen, IsCall}
use Rattle.book_reports.proofs.Words.{AllocError, LedgerFault, IsReading, Tells, fault_alike}
use Rattle.book_reports.proofs.Words.{fault_tells, read_as, read_then, same_value, IsMadeOf}
use Rattle.book_reports.proofs.Words.{closed_through, closed_through_outcome, shown_by}

module _ {V A U B : Type 0} {view : V → A} {show : U → B} {outcome : Book → Outcome A}
  where
    -- what was made of a list that was read, where it is what the definitions make of it
    pub call_made : {old new : Seen} {makes : V → Result U AllocError → Type 0} (text : A → B)
        {answer : Result V LedgerFault} {result : Result U LedgerFault}
        → IsReading outcome → IsCall view old new answer outcome → IsMadeOf makes answer result
        → ((value : V) (given : U) → makes value (Ok given) → show given ≡ text (view value))
        → IsCall show old new result (λ book. no_event (shown_by text (outcome book).answer))
    call_made text {answer = Ok value} {result = Ok given} none call is tells =
        read_as none (λ book. refl) (record { reopen = refl; store = refl })
        (λ book said. ap (shown_by text) said ∙ ap Ok (sym (tells value given is.made))) call
    call_made text {answer = Ok value} {result = Err fault} none call is tells =
        rw is.made
        (read_as none (λ book. refl) (record { reopen = refl; store = refl }) (λ book said. tt) call)
    call_made text {answer = Err fault} none call is tells =
        rw is.refused
        (read_as none (λ book. refl) (fault_alike fault)
        (λ book. fault_tells view show fault (ap (shown_by text))) call)

    -- the same after the day that a period was closed through: both are read from one book
    pub period_made : {old mid new : Seen} {makes : V → Result U AllocError → Type 0} (period : ℕ)
        (text : Option ℤ → A → B) {through : Option ℤ}
        {answer : Result V LedgerFault} {result : Result U LedgerFault}
        → IsReading outcome → IsCall (λ day. day) old mid (Ok through) (closed_through_outcome period)
        → IsCall view mid new answer outcome → IsMadeOf makes answer result
        → ((value : V) (given : U) → makes value (Ok given) → show given ≡ text through (view value))
        → IsCall show old new result
        (λ book. no_event (shown_by (text (closed_through book period)) (outcome book).answer))
    period_made period text {through = through} {result = result} none day call is tells =
        read_then (λ book. refl) (λ book. refl) (λ book. refl) (record { reopen = refl; store = refl })
        (λ book early. subst (Tells show result)
        (ap (λ day. shown_by (text day) (outcome book).answer) (sym (same_value early))))
        day (call_made (text through) none call is tells)
