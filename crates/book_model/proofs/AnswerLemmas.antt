-- Answers of a ledger, where memory may run out.
use Rattle.std.proofs.Common.{◌≡◌, ℕ, List, Result, Ok, Err, Option, None, refl, sym, ap, ◌∙◌}
use Rattle.book_model.specs.declared.answer.Accepted.{Accepted}
use Rattle.book_model.specs.declared.answer.Ruled.{Ruled}
use Rattle.book_model.specs.declared.fault.LedgerFault.{LedgerFault}
use Rattle.book_model.specs.declared.fault.LedgerFault.TheVariants.{Memory}
use Rattle.book_model.specs.Words.{accept_answer, Answers, IsBookCall, Book, Event, after_any}
use Rattle.book_model.specs.Words.{Outcome, accept_event, accept_outcome, if_done, Naming}

-- what is answered as it is
pub answers_itself : {A : Type 0} (result answer : Result A LedgerFault) → answer ≡ result
    → Answers (λ (value : A). value) result answer
answers_itself (Ok value) answer is = is
answers_itself (Err Memory) answer is = tt
answers_itself (Err fault) answer is = is

-- a call on a book, by what it answered and by the event of that answer
pub calls : {A : Type 0} (old new : Book) (result : Result A LedgerFault)
    (outcome : Book → Outcome A)
    (event : Result A LedgerFault → Option Event)
    → ((answer : Result A LedgerFault) → (outcome old).answer ≡ answer
    → (outcome old).event ≡ event answer)
    → ((fault : LedgerFault) → event (Err fault) ≡ None)
    → Answers (λ (value : A). value) result (outcome old).answer
    → new ≡ after_any (event result) old
    → IsBookCall (λ (value : A). value) old new result outcome
calls old new (Ok value) outcome event own none answer book =
    record {
      answer = answer;
      book = book
          ∙ ap (λ made. after_any made old) (sym (own (Ok value) answer));
    }
calls old new (Err fault) outcome event own none answer book =
    record { answer = answer; book = book ∙ ap (λ made. after_any made old) (none fault) }

-- no refused record is an event
accept_event-refused : (bytes : List ℕ) (fault : LedgerFault)
    → accept_event bytes (Err fault) ≡ None
accept_event-refused bytes fault = refl

-- a record that was submitted
pub accept_calls : (naming : Naming) (bytes : List ℕ) (old new : Book)
    (result : Result Accepted LedgerFault)
    → Answers (λ (value : Accepted). value) result (accept_answer naming old bytes)
    → new ≡ after_any (accept_event bytes result) old
    → IsBookCall (λ (value : Accepted). value) old new result (accept_outcome naming bytes)
accept_calls naming bytes old new result answer book =
    calls old new result (accept_outcome naming bytes) (accept_event bytes)
    (λ answer is. ap (accept_event bytes) is) (accept_event-refused bytes) answer book

-- no refused ruling is an event
if_done-refused : (submitted : Option Event) (fault : LedgerFault)
    → if_done submitted (Err fault) ≡ None
if_done-refused submitted fault = refl

-- a ruling that was submitted
pub ruling_calls : (outcome : Book → Outcome Ruled) (submitted : Option Event) (old new : Book)
    (result : Result Ruled LedgerFault)
    → (outcome old).event ≡ if_done submitted (outcome old).answer
    → Answers (λ (value : Ruled). value) result (outcome old).answer
    → new ≡ after_any (if_done submitted result) old
    → IsBookCall (λ (value : Ruled). value) old new result outcome
ruling_calls outcome submitted old new result own answer book =
    calls old new result outcome (if_done submitted)
    (λ answer is. own ∙ ap (if_done submitted) is) (if_done-refused submitted) answer book
