-- Calls of a ledger that keeps its books in memory: no store fails, and nothing is left to open.
use Rattle.std.proofs.Common.{◌≡◌, ◌∙◌, refl, sym, ap, subst, false, true≢false, None, Result, Ok, Err}
use Rattle.book_model.specs.Words.{Answers, Book, IsBookCall, Naming, Outcome, after_any, event_of}
use Rattle.book_model.specs.declared.fault.LedgerFault.{LedgerFault}
use Rattle.book_model.specs.declared.fault.LedgerFault.TheVariants.{Memory, Store, Reopen}
use Rattle.book_model.specs.declared.naming.Naming.{Ghosts}
use Rattle.book_core.specs.Calls.{IsCall, LeavesOpen, Makes, Reopens, is_reopen, is_store, listed}
use Rattle.book_core.specs.Ledgers.{in_memory}
use Rattle.book_core.specs.Transition.{IsTransition, Transition}
use Rattle.book_core.proofs.MemoryLemmas.{after_listed}
use Rattle.book_core.proofs.OpenAnswers.{opens}
use Rattle.plain_ledger.specs.declared.ledger.PlainLedger.{PlainLedger}
use Rattle.plain_ledger.specs.LedgerBook.{ledger_book, seen_in}
use Rattle.plain_ledger.specs.PlainBook.{naming_in}

-- a call that answers as the definitions say leaves the books open, where what they say does
answered : {V A : Type 0} (view : V → A) (result : Result V LedgerFault)
    (answer : Result A LedgerFault) → LeavesOpen answer → Answers view result answer
    → LeavesOpen result
answered view (Ok value) answer plain is = opens refl refl
answered view (Err Memory) answer plain is = opens refl refl
answered view (Err Store) answer plain is =
    absurd (true≢false (sym (ap is_store is) ∙ plain.stored))
answered view (Err Reopen) answer plain is =
    absurd (true≢false (sym (ap is_reopen is) ∙ plain.served))
answered view (Err fault) answer plain is = opens refl refl

-- the event of the call is the outcome's
made : {V A : Type 0} (view : V → A) (outcome : Outcome A) (result : Result V LedgerFault)
    → LeavesOpen outcome.answer → Answers view result outcome.answer
    → Makes view outcome result (listed (event_of result outcome))
made view outcome (Ok value) plain is = (is, refl)
made view outcome (Err Memory) plain is = refl
made view outcome (Err Store) plain is =
    absurd (true≢false (sym (ap is_store is) ∙ plain.stored))
made view outcome (Err Reopen) plain is =
    absurd (true≢false (sym (ap is_reopen is) ∙ plain.served))
made view outcome (Err fault) plain is = (is, refl)

-- A call that answered as the outcome says, with an event that is what changed of the book.
pub call_in_memory : {V A : Type 0} (view : V → A) (naming : Naming) (old new : Book)
    (result : Result V LedgerFault) (outcome : Book → Outcome A)
    → LeavesOpen (outcome old).answer
    → Answers view result (outcome old).answer
    → new ≡ after_any (event_of result (outcome old)) old
    → IsCall view (in_memory naming old) (in_memory naming new) result outcome
call_in_memory view naming old new result outcome plain answers leads =
    let still_open = answered view result (outcome old).answer plain answers in
    let reopens : Reopens result false false =
    record { reopen = still_open.served; store = sym still_open.stored } in
    record {
      work = record {
        naming = refl;
        honest = λ honest. tt;
        books = λ honest books. tt;
        moves = λ honest books book stands. record {
          before = old;
          events = listed (event_of result (outcome old));
          stood = refl;
          made = record {
            makes = made view (outcome old) result plain answers;
            reopens = reopens;
          };
          leads = stands ∙ leads ∙ after_listed (event_of result (outcome old)) old;
        };
        alone = λ shut. absurd (true≢false (sym shut));
      };
      reopens = reopens;
    }

-- A list that is read, which is no event.
pub read_in_memory : {V A : Type 0} (view : V → A) (naming : Naming) (book : Book)
    (result : Result V LedgerFault) (outcome : Book → Outcome A)
    → (outcome book).event ≡ None
    → LeavesOpen (outcome book).answer
    → Answers view result (outcome book).answer
    → IsCall view (in_memory naming book) (in_memory naming book) result outcome
read_in_memory {V} view naming book result outcome none plain answers =
    call_in_memory view naming book book result outcome plain answers
    (ap (λ event. after_any event book) (sym (no_event result)))
  where
    no_event : (result : Result V LedgerFault) → event_of result (outcome book) ≡ None
    no_event (Ok value) = none
    no_event (Err fault) = refl

module _ {N : Type 0} {names : Ghosts N} where
  -- A call of a plain ledger is one of a ledger in memory,
  pub ledger_call : {V A : Type 0} (view : V → A) (old new : PlainLedger N names)
      (result : Result V LedgerFault) (outcome : Book → Outcome A)
      → LeavesOpen (outcome (ledger_book old)).answer → naming_in new.books ≡ naming_in old.books
      → IsBookCall view (ledger_book old) (ledger_book new) result outcome
      → IsCall view (seen_in old) (seen_in new) result outcome
  ledger_call view old new result outcome plain same call =
      subst (λ naming. IsCall view (seen_in old) (in_memory (names.name_of naming) (ledger_book new))
      result outcome)
      (sym same)
      (call_in_memory view (names.name_of (naming_in old.books)) (ledger_book old)
      (ledger_book new) result outcome plain call.answer call.book)

  -- and so is any work of it
  pub ledger_work : (old new : PlainLedger N names) (Made : Transition)
      → naming_in new.books ≡ naming_in old.books
      → IsTransition (in_memory (names.name_of (naming_in old.books)) (ledger_book old))
      (in_memory (names.name_of (naming_in old.books)) (ledger_book new)) Made
      → IsTransition (seen_in old) (seen_in new) Made
  ledger_work old new Made same work =
      subst (λ naming. IsTransition (seen_in old) (in_memory (names.name_of naming) (ledger_book new))
      Made) (sym same) work
