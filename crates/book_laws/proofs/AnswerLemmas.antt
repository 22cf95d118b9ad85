-- One call of an open ledger.
use Rattle.std.proofs.Common.{◌≡◌, ◌≢◌, ◌∙◌, false, true≢false, List, [], refl, ap, subst, Result}
use Rattle.std.proofs.Common.{Err, ◌||◌}
use Rattle.book_model.specs.declared.fault.LedgerFault.{LedgerFault}
use Rattle.book_model.specs.declared.fault.LedgerFault.TheVariants.{Memory, Store, Reopen}
use Rattle.book_model.specs.Words.{Book, Event, after_all, Outcome, Naming}
use Rattle.book_core.specs.Words.{Makes, Calls, is_store, is_reopen, Seen, IsOpenAt}
use Rattle.office.proofs.LeavingLemmas.{Leaves, work_leaves}
use Rattle.book_laws.specs.AnswerLaws.{IsCalled, OneAnswer, OneRefusal, OneBook}
use Rattle.book_laws.specs.AnswerLaws.{RefusalChangesNothing}

-- another fault is not one of the store
pub not_store : (V : Type 0) (fault : LedgerFault) → fault ≢ Store
    → is_store {V = V} (Err fault) ≡ false
not_store V Store other = absurd (other refl)
not_store V fault other = refl

-- a refusal of open books that is neither a lack of memory nor a store's fault is the outcome's
pub refused_as : {V A : Type 0} (view : V → A) (outcome : Outcome A) (fault : LedgerFault)
    (events : List Event) → fault ≢ Memory → fault ≢ Store
    → is_reopen {V = V} (Err fault) ≡ false → Makes view outcome (Err fault) events
    → (outcome.answer ≡ Err fault) × (events ≡ [])
refused_as view outcome Memory events memory store reopen made = absurd (memory refl)
refused_as view outcome Store events memory store reopen made = absurd (store refl)
refused_as view outcome Reopen events memory store reopen made = absurd (true≢false reopen)
refused_as view outcome fault events memory store reopen made = made

-- a refusal that is no fault of the store makes no event
made_none : {V A : Type 0} (view : V → A) (outcome : Outcome A) (fault : LedgerFault)
    (events : List Event) → fault ≢ Store → Makes view outcome (Err fault) events → events ≡ []
made_none view outcome Memory events store made = made
made_none view outcome Store events store made = absurd (store refl)
made_none view outcome Reopen events store made = made
made_none view outcome fault events store made = made.1

-- what came of a call that was no fault of the store
called : {V A : Type 0} {view : V → A} {outcome : Book → Outcome A} {naming : Naming} {start : Book}
    {old new : Seen} {result : Result V LedgerFault}
    → IsCalled view outcome naming start old new result → is_store result ≡ false
    → Leaves naming (Calls view outcome result) start new
called {result = result} come store =
    work_leaves come.opened come.call.work (record {
      is_open = come.call.reopens.store ∙ ap (λ was. was || is_store result) come.opened.is_open
          ∙ store;
      honest = come.honest;
    })

pub one_answer : {L : Type 0} (V A : Type 0) (seen : L → Seen) → OneAnswer V A seen
one_answer V A seen view outcome naming start old new value come =
    (called come refl).made.makes.0

pub one_refusal : {L : Type 0} (V A : Type 0) (seen : L → Seen) → OneRefusal V A seen
one_refusal V A seen view outcome naming start old new fault memory store come =
    let work = called come (not_store V fault store) in
    (refused_as view (outcome start) fault work.events memory store work.made.reopens.reopen
    work.made.makes).0

pub one_book : {L : Type 0} (V A : Type 0) (seen : L → Seen) → OneBook V A seen
one_book V A seen view outcome naming start old new value come =
    let work = called come refl in
    subst (λ events. IsOpenAt naming (after_all events start) (seen new)) work.made.makes.1
    work.left

pub refusal_changes_nothing : {L : Type 0} (V A : Type 0) (seen : L → Seen)
    → RefusalChangesNothing V A seen
refusal_changes_nothing V A seen view outcome naming start old new fault store come =
    let work = called come (not_store V fault store) in
    subst (λ events. IsOpenAt naming (after_all events start) (seen new))
    (made_none view (outcome start) fault work.events store work.made.makes) work.left
