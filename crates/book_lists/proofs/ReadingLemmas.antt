-- Lists that are read from a ledger, and what is made from them: a reading call stands for another.
use Rattle.std.proofs.Common.{◌≡◌, ◌∙◌, Bool, false, List, [], ◌++◌, refl, sym, ap, subst, ◌||◌}
use Rattle.std.proofs.Common.{inl, inr, None, Result, Ok, Err, IsErrAnd}
use Rattle.book_model.specs.declared.fault.LedgerFault.TheVariants.{Store, Reopen}
use Rattle.book_model.specs.Words.{Book, Event, Naming, after_all, Outcome}
use Rattle.book_core.specs.Words.{Seen, Then, Calls, IsCall, Makes, Reopens, listed, is_store}
use Rattle.book_core.specs.Words.{is_reopen}
use Rattle.book_lists.proofs.Words.{LedgerFault, Memory, work_then, work_as}

-- a call is one of an outcome by other names too, if they are the same
pub by_names : {V A : Type 0} {view : V → A} {old new : Seen} {result : Result V LedgerFault}
    {one other : Naming} (outcome : Naming → Book → Outcome A) → one ≡ other
    → IsCall view old new result (outcome one) → IsCall view old new result (outcome other)
by_names {view = view} {old = old} {new = new} {result = result} outcome same call =
    subst (λ naming. IsCall view old new result (outcome naming)) same call

-- what a call answers of an outcome; out of memory, a fault of the store and Reopen show nothing
abbrev pub Tells : {V A : Type 0} → (V → A) → Result V LedgerFault → Result A LedgerFault → Type 0
Tells view (Ok value) answer = answer ≡ Ok (view value)
Tells view (Err Memory) answer = Unit {0}
Tells view (Err Store) answer = Unit {0}
Tells view (Err Reopen) answer = Unit {0}
Tells view (Err fault) answer = answer ≡ Err fault

-- a call that reads makes no event
pub told : {V A : Type 0} (view : V → A) (outcome : Outcome A) (result : Result V LedgerFault)
    (events : List Event) → outcome.event ≡ None → Makes view outcome result events
    → (events ≡ []) × Tells view result outcome.answer
told view outcome (Ok value) events none makes = (makes.1 ∙ ap listed none, makes.0)
told view outcome (Err Memory) events none makes = (makes, tt)
told view outcome (Err Store) events none (inl makes) = (makes, tt)
told view outcome (Err Store) events none (inr makes) = (makes ∙ ap listed none, tt)
told view outcome (Err Reopen) events none makes = (makes, tt)
told view outcome (Err fault) events none makes = (makes.1, makes.0)

-- and is made from what it shows
pub made : {V A : Type 0} (view : V → A) (outcome : Outcome A) (result : Result V LedgerFault)
    (events : List Event) → outcome.event ≡ None → events ≡ []
    → Tells view result outcome.answer → Makes view outcome result events
made view outcome (Ok value) events none no_events tells =
    (tells, no_events ∙ ap listed (sym none))
made view outcome (Err Memory) events none no_events tells = no_events
made view outcome (Err Store) events none no_events tells = inl no_events
made view outcome (Err Reopen) events none no_events tells = no_events
made view outcome (Err fault) events none no_events tells = (tells, no_events)

-- two results that both reopen a ledger or both do not
pub record IsAlike {V U : Type 0} (one : Result V LedgerFault) (other : Result U LedgerFault)
    : Type 0 where
  pub reopen : is_reopen one ≡ is_reopen other
  pub store : is_store one ≡ is_store other

-- so a ledger that one of them reopens is reopened by the other
pub reopens_alike : {V U : Type 0} (one : Result V LedgerFault) (other : Result U LedgerFault)
    (was is : Bool) → IsAlike one other → Reopens one was is → Reopens other was is
reopens_alike one other was is alike reopens = record {
  reopen = sym alike.reopen ∙ reopens.reopen;
  store = reopens.store ∙ ap (λ failed. was || failed) alike.store;
}

-- the outcome makes no event, whatever the book
abbrev pub IsReading : {A : Type 0} → (Book → Outcome A) → Type 0
IsReading outcome = (book : Book) → (outcome book).event ≡ None

module _ {V A U B : Type 0} {view : V → A} {show : U → B} {result : Result V LedgerFault}
    {answer : Result U LedgerFault} {outcome : Book → Outcome A} {other : Book → Outcome B} where
  -- a reading call stands for another, if its answer gives that of the other
  pub read_as : {old new : Seen} → IsReading outcome → IsReading other → IsAlike result answer
      → ((book : Book) → Tells view result (outcome book).answer
      → Tells show answer (other book).answer)
      → IsCall view old new result outcome → IsCall show old new answer other
  read_as {old} {new} none no_other alike tells call = record {
    work = work_as old new (Calls view outcome result) (Calls show other answer)
        (λ was before events is called.
        let said = told view (outcome before) result events (none before) called.makes in
        record {
          makes = made show (other before) answer events (no_other before) said.0
              (tells before said.1);
          reopens = reopens_alike result answer was is alike called.reopens;
        })
        call.work;
    reopens = reopens_alike result answer old.must_reopen new.must_reopen alike call.reopens;
  }

-- what was read first leaves the ledger as it was
pub goes_on : {V : Type 0} (value : V) (was between : Bool)
    → Reopens {V = V} (Ok value) was between → between ≡ was
goes_on value was between reopens =
    reopens.store ∙ ap (λ b. b || false) (sym reopens.reopen) ∙ reopens.reopen

module _ {W C V A U B : Type 0} {first : W → C} {view : V → A} {show : U → B} {value : W}
    {result : Result V LedgerFault} {answer : Result U LedgerFault}
    {outcome_first : Book → Outcome C} {outcome : Book → Outcome A} {other : Book → Outcome B}
  where
    -- a list is read, and then another: both show one book
    pub read_then : {old mid new : Seen} → IsReading outcome_first → IsReading outcome
        → IsReading other → IsAlike result answer
        → ((book : Book) → (outcome_first book).answer ≡ Ok (first value)
        → Tells view result (outcome book).answer → Tells show answer (other book).answer)
        → IsCall first old mid (Ok value) outcome_first → IsCall view mid new result outcome
        → IsCall show old new answer other
    read_then {old} {mid} {new} none_first none no_other alike tells one next = record {
      work = work_as old new
          (Then (Calls first outcome_first (Ok value)) (Calls view outcome result))
          (Calls show other answer)
          (λ was before events is both.
          let early = told first (outcome_first before) (Ok value) both.early (none_first before)
          both.first.makes in
          let middle = after_all both.early before in
          let late = told view (outcome middle) result both.late (none middle) both.next.makes in
          let same : middle ≡ before = ap (λ events. after_all events before) early.0 in
          let none_made = both.all ∙ ap (λ events. both.late ++ events) early.0
          ∙ ap (λ events. events ++ []) late.0 in
          record {
            makes = made show (other before) answer events (no_other before) none_made
                (tells before early.1
                (subst (λ book. Tells view result (outcome book).answer) same late.1));
            reopens = reopens_alike result answer was is alike
                (subst (λ between. Reopens result between is)
                (goes_on value was both.between both.first.reopens) both.next.reopens);
          })
          (work_then old mid new (Calls first outcome_first (Ok value)) (Calls view outcome result)
          one.work next.work);
      reopens = reopens_alike result answer old.must_reopen new.must_reopen alike
          (subst (λ between. Reopens result between new.must_reopen)
          (goes_on value old.must_reopen mid.must_reopen one.reopens) next.reopens);
    }

-- a fault reopens a ledger or not, whatever was asked for
pub fault_alike : {V U : Type 0} (fault : LedgerFault)
    → IsAlike {V = V} {U = U} (Err fault) (Err fault)
fault_alike Memory = record { reopen = refl; store = refl }
fault_alike Store = record { reopen = refl; store = refl }
fault_alike Reopen = record { reopen = refl; store = refl }
fault_alike fault = record { reopen = refl; store = refl }

-- a fault of one answer is that of another, if the definitions refuse both alike
pub fault_tells : {V A U B : Type 0} (view : V → A) (show : U → B) (fault : LedgerFault)
    {answer : Result A LedgerFault} {other : Result B LedgerFault}
    → (answer ≡ Err fault → other ≡ Err fault)
    → Tells view (Err fault) answer → Tells show (Err fault) other
fault_tells view show Memory refused tells = tt
fault_tells view show Store refused tells = tt
fault_tells view show Reopen refused tells = tt
fault_tells view show fault refused tells = refused tells

-- the fault that `?` passes on
pub passed_on : {T F : Type 0} {fault : F} (result : Result T F)
    → IsErrAnd result (λ given. given ≡ fault) → result ≡ Err fault
passed_on (Ok value) is = absurd is
passed_on (Err given) is = ap Err is

module _ {V A U B : Type 0} {view : V → A} {show : U → B} {outcome : Book → Outcome A}
  where
    -- a call that failed stands for another that is refused alike
    pub call_failed : {old new : Seen} {fault : LedgerFault} {other : Book → Outcome B}
        (result : Result U LedgerFault)
        → IsErrAnd result (λ given. given ≡ fault) → IsReading outcome → IsReading other
        → ((book : Book) → (outcome book).answer ≡ Err fault → (other book).answer ≡ Err fault)
        → IsCall view old new (Err fault) outcome → IsCall show old new result other
    call_failed {fault = fault} result is none no_other refused call =
        rw (passed_on result is)
        (read_as none no_other (fault_alike fault) (λ book. fault_tells view show fault (refused book)) call)
