-- Calls of a ledger that change nothing, one after another: they show one book, whatever book that is.
use Rattle.std.proofs.Common.{◌≡◌, ◌∙◌, Bool, false, List, [], ◌++◌, refl, sym, ap, subst, ◌||◌}
use Rattle.std.proofs.Common.{Result, Ok, Err, IsErrAnd}
use Rattle.book_model.specs.Words.{Book, Event, Outcome, after_all}
use Rattle.book_core.specs.Words.{Seen, Calls, IsCall, Reopens, listed, IsTransition, Then}
use Rattle.book_lists.proofs.ReadingLemmas.{IsAlike, IsReading, Tells, fault_alike, fault_tells}
use Rattle.book_lists.proofs.ReadingLemmas.{goes_on, made, passed_on, reopens_alike, told}
use Rattle.book_lists.proofs.Words.{LedgerFault, Memory, work_as, work_then}

-- no event was made, and this is known of the book; an open ledger stays so
pub record Saw (Known : Book → Type 0) (was : Bool) (before : Book) (events : List Event) (is : Bool)
    : Type 0 where
  pub none : events ≡ []
  pub known : Known before
  pub stays : is ≡ was
  pub at_work : was ≡ false

-- calls were answered so, and this is known of the book by them
pub record Shows (old new : Seen) (Known : Book → Type 0) : Type 0 where
  pub work : IsTransition old new (Saw Known)
  pub stays : new.must_reopen ≡ old.must_reopen
  pub at_work : old.must_reopen ≡ false

-- an answer of which no more is told
abbrev pub answered : Result (Unit {0}) LedgerFault
answered = Ok tt

-- an open ledger that stays so answered
pub stays_open : (was is : Bool) → is ≡ was → was ≡ false → Reopens answered was is
stays_open was is stays at_work = record {
  reopen = sym at_work;
  store = stays ∙ at_work ∙ ap (λ was. was || false) (sym at_work);
}

-- a call was answered
pub shown : {V A : Type 0} {view : V → A} {outcome : Book → Outcome A} {old new : Seen} {value : V}
    → IsReading outcome → IsCall view old new (Ok value) outcome
    → Shows old new (λ book. (outcome book).answer ≡ Ok (view value))
shown {view = view} {outcome = outcome} {old = old} {new = new} {value = value} none call = record {
  work = work_as old new (Calls view outcome (Ok value))
      (Saw (λ book. (outcome book).answer ≡ Ok (view value)))
      (λ was before events is called. record {
        none = called.makes.1 ∙ ap listed (none before);
        known = called.makes.0;
        stays = goes_on value was is called.reopens;
        at_work = sym called.reopens.reopen;
      })
      call.work;
  stays = goes_on value old.must_reopen new.must_reopen call.reopens;
  at_work = sym call.reopens.reopen;
}

-- an open ledger of which nothing was asked
pub nothing_shown : (seen : Seen) → seen.must_reopen ≡ false → Shows seen seen (λ book. Unit {0})
nothing_shown seen at_work = record {
  work = record {
    naming = refl;
    honest = λ honest. honest;
    books = λ honest books. books;
    moves = λ honest books book stands. record {
      before = book;
      events = [];
      stood = stands;
      made = record { none = refl; known = tt; stays = refl; at_work = at_work };
      leads = refl;
    };
    alone = λ reopen. record { reopen = reopen; left = λ book left. left };
  };
  stays = refl;
  at_work = at_work;
}

-- what is known tells something else
pub shown_as : {Known Other : Book → Type 0} {old new : Seen}
    → ((book : Book) → Known book → Other book) → Shows old new Known → Shows old new Other
shown_as {Known} {Other} {old} {new} tells so_far = record {
  work = work_as old new (Saw Known) (Saw Other)
      (λ was before events is saw. record {
        none = saw.none;
        known = tells before saw.known;
        stays = saw.stays;
        at_work = saw.at_work;
      })
      so_far.work;
  stays = so_far.stays;
  at_work = so_far.at_work;
}

-- and then another call was answered
pub then_shown : {V A : Type 0} {view : V → A} {outcome : Book → Outcome A} {value : V}
    {Known More : Book → Type 0} {old mid new : Seen} → IsReading outcome
    → ((book : Book) → Known book → (outcome book).answer ≡ Ok (view value) → More book)
    → Shows old mid Known → IsCall view mid new (Ok value) outcome → Shows old new More
then_shown {view = view} {outcome = outcome} {value = value} {Known = Known} {More = More}
    {old = old} {mid = mid} {new = new} none tells so_far call =
    let next = shown none call in
    let Next : Book → Type 0 = λ book. (outcome book).answer ≡ Ok (view value) in
    record {
      work = work_as old new (Then (Saw Known) (Saw Next)) (Saw More)
          (λ was before events is both.
          let middle = after_all both.early before in
          let same : middle ≡ before = ap (λ events. after_all events before) both.first.none in
          record {
            none = both.all ∙ ap (λ events. both.late ++ events) both.first.none
                ∙ ap (λ events. events ++ []) both.next.none;
            known = tells before both.first.known (subst Next same both.next.known);
            stays = both.next.stays ∙ both.first.stays;
            at_work = both.first.at_work;
          })
          (work_then old mid new (Saw Known) (Saw Next) so_far.work next.work);
      stays = next.stays ∙ so_far.stays;
      at_work = so_far.at_work;
    }

-- or what is known is of no use any more
pub then_stays : {V A : Type 0} {view : V → A} {outcome : Book → Outcome A} {value : V}
    {Known : Book → Type 0} {old mid new : Seen} → IsReading outcome → Shows old mid Known
    → IsCall view mid new (Ok value) outcome → Shows old new (λ book. Unit {0})
then_stays none so_far call = then_shown none (λ book known said. tt) so_far call

-- this is known, and that too
pub record Both (Known More : Book → Type 0) (book : Book) : Type 0 where
  pub first : Known book
  pub next : More book

pub both_shown : {V A : Type 0} {view : V → A} {outcome : Book → Outcome A} {value : V}
    {Known : Book → Type 0} {old mid new : Seen} → IsReading outcome → Shows old mid Known
    → IsCall view mid new (Ok value) outcome
    → Shows old new (Both Known (λ book. (outcome book).answer ≡ Ok (view value)))
both_shown none so_far call =
    then_shown none (λ book known said. record { first = known; next = said }) so_far call

module _ {U B : Type 0} {show : U → B} {other : Book → Outcome B} {Known : Book → Type 0}
  where
    -- so this is answered, or refused, as by one call
    pub answers_as : {old new : Seen} (result : Result U LedgerFault) → IsAlike answered result
        → IsReading other → ((book : Book) → Known book → Tells show result (other book).answer)
        → Shows old new Known → IsCall show old new result other
    answers_as {old} {new} result alike none tells so_far = record {
      work = work_as old new (Saw Known) (Calls show other result)
          (λ was before events is saw. record {
            makes = made show (other before) result events (none before) saw.none
                (tells before saw.known);
            reopens = reopens_alike answered result was is alike
                (stays_open was is saw.stays saw.at_work);
          })
          so_far.work;
      reopens = reopens_alike answered result old.must_reopen new.must_reopen alike
          (stays_open old.must_reopen new.must_reopen so_far.stays so_far.at_work);
    }

    pub answers : {old new : Seen} (value : U) → IsReading other
        → ((book : Book) → Known book → (other book).answer ≡ Ok (show value))
        → Shows old new Known → IsCall show old new (Ok value) other
    answers value none tells so_far =
        answers_as (Ok value) (record { reopen = refl; store = refl }) none tells so_far

    -- or memory ran out
    pub answers_none : {old new : Seen} → IsReading other → Shows old new Known
        → IsCall show old new (Err Memory) other
    answers_none none so_far =
        answers_as (Err Memory) (record { reopen = refl; store = refl }) none (λ book known. tt) so_far

    -- or the ledger refused the next call
    pub refused_next : {V A : Type 0} {view : V → A} {outcome : Book → Outcome A} {fault : LedgerFault}
        {old mid new : Seen} (result : Result U LedgerFault) → IsErrAnd result (λ given. given ≡ fault)
        → IsReading outcome → IsReading other
        → ((book : Book) → Known book → (outcome book).answer ≡ Err fault
        → (other book).answer ≡ Err fault)
        → Shows old mid Known → IsCall view mid new (Err fault) outcome
        → IsCall show old new result other
    refused_next {V = V} {view = view} {outcome = outcome} {fault = fault} {old = old} {mid = mid}
        {new = new} result is none no_other refused so_far call =
        rw (passed_on result is) (record {
          work = work_as old new (Then (Saw Known) (Calls view outcome (Err fault)))
              (Calls show other (Err fault))
              (λ was before events is both.
              let middle = after_all both.early before in
              let late = told view (outcome middle) (Err fault) both.late (none middle)
              both.next.makes in
              let same : middle ≡ before = ap (λ events. after_all events before) both.first.none in
              record {
                makes = made show (other before) (Err fault) events (no_other before)
                    (both.all ∙ ap (λ events. both.late ++ events) both.first.none
                    ∙ ap (λ events. events ++ []) late.0)
                    (fault_tells view show fault (refused before both.first.known)
                    (subst (λ book. Tells view (Err fault) (outcome book).answer) same late.1));
                reopens = reopens_alike {V = V} {U = U} (Err fault) (Err fault) was is (fault_alike fault)
                    (subst (λ between. Reopens {V = V} (Err fault) between is) both.first.stays
                    both.next.reopens);
              })
              (work_then old mid new (Saw Known) (Calls view outcome (Err fault)) so_far.work
              call.work);
          reopens = reopens_alike {V = V} {U = U} (Err fault) (Err fault) old.must_reopen
              new.must_reopen (fault_alike fault)
              (subst (λ between. Reopens {V = V} (Err fault) between new.must_reopen) so_far.stays
              call.reopens);
        })
