-- What a call of a ledger in memory says: no store fails, and nothing is left to open.
use Rattle.std.proofs.Common.{◌≡◌, ◌∙◌, List, refl, sym, ap, subst, false, true≢false, Option, None}
use Rattle.std.proofs.Common.{Some, Result, Ok, Err}
use Rattle.book_model.specs.declared.fault.LedgerFault.{LedgerFault}
use Rattle.book_model.specs.declared.fault.LedgerFault.TheVariants.{Memory, Store, Reopen}
use Rattle.book_model.specs.Words.{Answers, event_of, Book, Event, after_any, after_all, Outcome}
use Rattle.book_model.specs.Words.{Naming}
use Rattle.book_core.specs.Words.{Makes, IsCall, Reopens, listed, in_memory}

-- a book after one event or none
pub after_listed : (event : Option Event) (book : Book) → after_any event book
    ≡ after_all (listed event) book
after_listed None book = refl
after_listed (Some event) book = refl

-- What such a call says of its answer: a store and Reopen can't be answered.
answers_by : {V A : Type 0} (view : V → A) (outcome : Outcome A) (result : Result V LedgerFault)
    (events : List Event) → Makes view outcome result events → Reopens result false false
    → Answers view result outcome.answer
answers_by view outcome (Ok value) events makes open_still = makes.0
answers_by view outcome (Err Memory) events makes open_still = tt
answers_by view outcome (Err Store) events makes open_still =
    absurd (true≢false (sym open_still.store))
answers_by view outcome (Err Reopen) events makes open_still =
    absurd (true≢false open_still.reopen)
answers_by view outcome (Err fault) events makes open_still = makes.0

-- and of its event
event_by : {V A : Type 0} (view : V → A) (outcome : Outcome A) (result : Result V LedgerFault)
    (events : List Event) → Makes view outcome result events → Reopens result false false
    → events ≡ listed (event_of result outcome)
event_by view outcome (Ok value) events makes open_still = makes.1
event_by view outcome (Err Memory) events makes open_still = makes
event_by view outcome (Err Store) events makes open_still =
    absurd (true≢false (sym open_still.store))
event_by view outcome (Err Reopen) events makes open_still = makes
event_by view outcome (Err fault) events makes open_still = makes.1

module _ {V A : Type 0} {view : V → A} {naming names : Naming} {old new : Book}
    {result : Result V LedgerFault} {outcome : Book → Outcome A}
    (call : IsCall view (in_memory naming old) (in_memory names new) result outcome) where
  -- a call of a ledger in memory answered as the outcome says
  pub answers_in_memory : Answers view result (outcome old).answer
  answers_in_memory =
      let came = call.work.moves tt tt new refl in
      subst (λ before. Answers view result (outcome before).answer) came.stood
      (answers_by view (outcome came.before) result came.events came.made.makes call.reopens)

  -- and its event is what changed of the book
  pub leaves_in_memory : new ≡ after_any (event_of result (outcome old)) old
  leaves_in_memory =
      let came = call.work.moves tt tt new refl in
      came.leads
      ∙ ap (λ events. after_all events came.before)
      (event_by view (outcome came.before) result came.events came.made.makes call.reopens)
      ∙ sym (after_listed (event_of result (outcome came.before)) came.before)
      ∙ ap (λ before. after_any (event_of result (outcome before)) before) came.stood

  -- where that is none, the book stays
  pub stays_in_memory : (outcome old).event ≡ None → new ≡ old
  stays_in_memory none =
      leaves_in_memory ∙ ap (λ event. after_any event old) (no_event result)
    where
      no_event : (result : Result V LedgerFault) → event_of result (outcome old) ≡ None
      no_event (Ok value) = none
      no_event (Err fault) = refl
