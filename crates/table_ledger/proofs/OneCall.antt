-- A single call of a ledger comes to such work.
use Rattle.std.proofs.Common.{◌≡◌, ◌∙◌, ◌||◌, inl, Bool, true, false, [], Result, Err}
use Rattle.std.proofs.Common.{refl, sym, ap}
use Rattle.book_model.specs.Words.{Book, Naming, Outcome}
use Rattle.book_core.specs.Words.{Calls, IsCall, Makes, Reopens}
use Rattle.table_ledger.proofs.Words.{StoreError, Ghosts, LedgerFault, Memory, Reopen}
use Rattle.table_ledger.proofs.Words.{state}
use Rattle.table_ledger.proofs.Words.{Finishes, LedgerState, seen_on, state_on, LeavesTheLast}
use Rattle.table_ledger.proofs.Words.{AttemptsOne, MakesOf, LeavesOne}
use Rattle.table_ledger.specs.declared.summary.Summary.{Summary}
use Rattle.table_ledger.proofs.ServedWork.{ComesTo, work_settled}

-- ---- a single call

-- it comes to such work
one_comes : {V A : Type 0} (view : V → A) (outcome : Book → Outcome A)
    → ComesTo (MakesOf view outcome) (LeavesOne outcome) (Calls view outcome)
one_comes view outcome = record {
  served = λ result book events open_now served made. record {
    makes = made;
    reopens = record { reopen = served; store = sym open_now };
  };
  wanting = λ book. refl;
  none = λ book. inl refl;
  within = λ book events leaves.
      record { makes = leaves; reopens = record { reopen = refl; store = refl } };
}

-- A call that was tried and settled is a call of the ledger.
pub call_settled : {S V A : Type 0} {view : V → A} {naming : Naming} {was is : Summary}
    {middle last : S} {outcome : Book → Outcome A} {before flag : Bool}
    {tried : Result (Result V LedgerFault) StoreError} {result : Result V LedgerFault}
    (ghosts : Ghosts S) (first : S) → before ≡ false
    → ((store : S) → LeavesTheLast (ghosts.view store) (ghosts.recovers store))
    → Finishes ghosts middle last before flag tried result
    → AttemptsOne view naming was is (state ghosts first) (state ghosts middle) outcome tried
    → IsCall view (seen_on (state_on ghosts naming first before was))
    (seen_on (state_on ghosts naming last flag is)) result outcome
call_settled {view = view} {outcome = outcome} ghosts first is_open leaves settles tries =
    let settled = work_settled (one_comes view outcome) ghosts first is_open leaves settles tries in
    record { work = settled.0; reopens = settled.1 }

-- a ledger that is to be reopened says so, and still is to be
pub stays_closed : {V : Type 0} {flag : Bool} → flag ≡ true
    → Reopens {V = V} (Err Reopen) flag flag
stays_closed closed =
    record { reopen = sym closed; store = closed ∙ ap (λ was. was || false) (sym closed) }

-- a call that did nothing, and was refused
call_undone : {V A : Type 0} {view : V → A} {outcome : Book → Outcome A} (shelf : LedgerState)
    (fault : LedgerFault) → ((book : Book) → Makes view (outcome book) (Err fault) [])
    → Reopens {V = V} (Err fault) shelf.must_reopen shelf.must_reopen
    → IsCall view (seen_on shelf) (seen_on shelf) (Err fault) outcome
call_undone shelf fault none reopens = record {
  work = record {
    naming = refl;
    honest = λ clean. clean;
    books = λ clean books. books;
    moves = λ clean books book stands. record {
      before = book;
      events = [];
      stood = stands;
      made = record { makes = none book; reopens = reopens };
      leads = refl;
    };
    alone = λ closed. record { reopen = closed; left = λ book left. left };
  };
  reopens = reopens;
}

-- A call of a ledger that is to be reopened leaves it alone.
pub call_reopen : {V A : Type 0} {view : V → A} {outcome : Book → Outcome A} (shelf : LedgerState)
    → shelf.must_reopen ≡ true → IsCall view (seen_on shelf) (seen_on shelf) (Err Reopen) outcome
call_reopen {view = view} {outcome = outcome} shelf closed =
    call_undone {view = view} {outcome = outcome} shelf Reopen (λ book. refl) (stays_closed closed)

-- So does one for which memory ran out before it was begun.
pub call_wanting : {V A : Type 0} {view : V → A} {outcome : Book → Outcome A} (shelf : LedgerState)
    → shelf.must_reopen ≡ false
    → IsCall view (seen_on shelf) (seen_on shelf) (Err Memory) outcome
call_wanting {view = view} {outcome = outcome} shelf is_open =
    call_undone {view = view} {outcome = outcome} shelf Memory (λ book. refl) (record {
      reopen = sym is_open;
      store = is_open ∙ ap (λ was. was || false) (sym is_open);
    })
