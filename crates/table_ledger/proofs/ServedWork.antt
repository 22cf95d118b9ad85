-- Work that is served is work of a ledger, whatever events it makes.
use Rattle.std.proofs.Common.{◌≡◌, ◌∙◌, inl, inr, Bool, true, false, true≢false, List, [], Result}
use Rattle.std.proofs.Common.{Ok, Err, refl, sym, ap, subst}
use Rattle.book_model.specs.Words.{Book, Event, after_all, Naming}
use Rattle.book_core.specs.Words.{Reopens, is_store, is_reopen, MayHave, may_have, Transition}
use Rattle.book_core.specs.Words.{IsTransition}
use Rattle.book_core.specs.Transition.{ComesFrom}
use Rattle.table_ledger.proofs.Words.{Trees, View, IsClean, StoreError, Ghosts, HasCleanDisk}
use Rattle.table_ledger.proofs.Words.{Survives, state, LedgerFault, Memory, Store, Finishes}
use Rattle.table_ledger.proofs.Words.{IsReadyAt, IsStoredIn, LedgerState, seen_on, state_on}
use Rattle.table_ledger.proofs.Words.{book_of_ready, LeavesTheLast, AttemptsBy}
use Rattle.table_ledger.specs.Attempts.{Ends, IsRefused, IsRolledBack}
use Rattle.table_ledger.specs.Ready.{IsReady, StoreSomeBook}
use Rattle.table_ledger.specs.LedgerState.{book_of_trees, MayFind, AreBooks}
use Rattle.table_ledger.specs.ReadyBooks.{book_of_stored, book_of_left}
use Rattle.table_ledger.specs.Stages.{IsMade, ServesBy}
use Rattle.table_ledger.specs.declared.summary.Summary.{Summary}
use Rattle.table_ledger.proofs.SurvivalLemmas.{clean_before, survives_then}

-- what the work comes to, as work on a ledger
pub record ComesTo {V : Type 0} (Made : Result V LedgerFault → Book → List Event → Type 0)
    (Leaves : Book → List Event → Type 0) (Work : Result V LedgerFault → Transition) : Type 0 where
  -- it was served,
  pub served : (result : Result V LedgerFault) (book : Book) (events : List Event)
      → is_store result ≡ false → is_reopen result ≡ false → Made result book events
      → Work result false book events false
  -- or memory ran out,
  pub wanting : (book : Book) → Made (Err Memory) book []
  -- or the store failed, and what the commit may have left, if it came to one, is made
  pub none : (book : Book) → Leaves book []
  pub within : (book : Book) (events : List Event) → Leaves book events
      → Work (Err Store) false book events true

-- a result that is a fault of the store
is_the_store : {V : Type 0} (result : Result V LedgerFault) → is_store result ≡ true → result ≡ Err Store
is_the_store (Ok value) is = absurd (true≢false (sym is))
is_the_store (Err Store) is = refl
is_the_store (Err fault) is = absurd (true≢false (sym is))

module _ {V : Type 0} {Made : Result V LedgerFault → Book → List Event → Type 0}
    {Leaves : Book → List Event → Type 0} {Work : Result V LedgerFault → Transition}
    (comes : ComesTo Made Leaves Work) (old new : LedgerState) (result : Result V LedgerFault)
    (is_open : old.must_reopen ≡ false)
    (last : LeavesTheLast old.state.view old.state.may_leave)
    (serves : ServesBy Made Leaves old new result) where
  -- the books of a shelf
  abbrev AreBooksOn : LedgerState → Type 0
  AreBooksOn shelf =
      AreBooks shelf.naming shelf.state.view shelf.state.may_leave shelf.must_reopen shelf.summary

  was_clean : HasCleanDisk new.state → HasCleanDisk old.state
  was_clean clean = clean_before serves.survives clean

  -- whatever a stop may leave after the work are books that can be read back
  books_left : HasCleanDisk new.state → AreBooksOn old → (trees : Trees) → new.state.may_leave trees
      → StoreSomeBook new.naming trees
  books_left clean books trees left =
      let ready = books.ready is_open (was_clean clean) in
      subst (λ naming. StoreSomeBook naming trees) (sym serves.naming)
      (elim (serves.survives.crash clean trees left) [
        | inl earlier ↦ books.left (was_clean clean) trees earlier
        | inr later ↦
            let keeps = later ready.book ready.ready in
            record { book = after_all keeps.events ready.book; kept = keeps.stored }
      ])

  -- the ledger is ready again, if no store failed,
  ready_again : HasCleanDisk new.state → AreBooksOn old → new.must_reopen ≡ false
      → IsReady new.naming new.summary new.state.view
  ready_again clean books open_now =
      let ready = books.ready is_open (was_clean clean) in
      let answered = serves.answered (sym serves.reopen ∙ open_now) clean ready.book ready.ready in
      record {
        book = after_all answered.events ready.book;
        ready = subst (λ naming. IsReadyAt naming new.summary new.state.view
            (after_all answered.events ready.book)) (sym serves.naming) answered.ready;
      }

  -- so there are books again
  books_again : HasCleanDisk new.state → AreBooksOn old → AreBooksOn new
  books_again clean books = record {
    left = λ clean_now. books_left clean books;
    ready = λ open_now clean_now. ready_again clean books open_now;
  }

  -- it was at the book with which it was ready
  stood : (ready : IsReady old.naming old.summary old.state.view) → MayHave (seen_on old) ready.book
  stood ready = subst (λ flag. may_have flag (seen_on old) ready.book) (sym is_open)
      (sym (book_of_ready ready.ready))

  -- the work of a result, between these flags
  made_with : (flag : Bool) (answer : Result V LedgerFault) (book : Book) (events : List Event)
      → result ≡ answer → new.must_reopen ≡ flag → Work answer false book events flag
      → Work result old.must_reopen book events new.must_reopen
  made_with flag answer book events is now work =
      subst (λ was. Work result was book events new.must_reopen) (sym is_open)
      (subst (λ flag. Work result false book events flag) (sym now)
      (subst (λ answer. Work answer false book events flag) (sym is) work))

  -- what a commit may have made of the book, or no event
  abbrev LeftOf : Book → Book → Type 0
  LeftOf book found =
      (events : List Event) × Leaves book events × (found ≡ after_all events book)

  -- a crash in the work leaves such a book,
  left_by : HasCleanDisk new.state → (ready : IsReady old.naming old.summary old.state.view)
      → (found : Book) → MayFind new.state.may_leave found → LeftOf ready.book found
  left_by clean ready found left =
      elim (serves.survives.crash clean left.0 left.1) [
        | inl earlier ↦ (
          [],
          comes.none ready.book,
          left.2
              ∙ book_of_left old.state.view old.state.may_leave last ready.ready left.0 earlier,
        )
        | inr later ↦
            let keeps = later ready.book ready.ready in
            (keeps.events, keeps.leaves, left.2 ∙ book_of_stored keeps.stored)
      ]

  -- so if the store failed, the next open finds one
  moves_failed : (ready : IsReady old.naming old.summary old.state.view) → is_store result ≡ true
      → (book : Book) → LeftOf ready.book book
      → ComesFrom (seen_on old) (seen_on new) (Work result) book
  moves_failed ready failed book left = record {
    before = ready.book;
    events = left.0;
    stood = stood ready;
    made = made_with true (Err Store) ready.book left.0 (is_the_store result failed)
        (serves.reopen ∙ failed) (comes.within ready.book left.0 left.1);
    leads = left.2;
  }

  -- if it did not, the book is the one that the work made
  moves_served : (ready : IsReady old.naming old.summary old.state.view) → is_store result ≡ false
      → HasCleanDisk new.state → (book : Book) → book ≡ book_of_trees new.state.view.trees
      → ComesFrom (seen_on old) (seen_on new) (Work result) book
  moves_served ready open_now clean book is =
      let answered = serves.answered open_now clean ready.book ready.ready in
      record {
        before = ready.book;
        events = answered.events;
        stood = stood ready;
        made = made_with false result ready.book answered.events refl (serves.reopen ∙ open_now)
            (comes.served result ready.book answered.events open_now serves.served answered.made);
        leads = is ∙ book_of_ready answered.ready;
      }

  -- both
  moves_by : (failed : Bool) → is_store result ≡ failed → HasCleanDisk new.state
      → (ready : IsReady old.naming old.summary old.state.view) → (book : Book)
      → may_have failed (seen_on new) book
      → ComesFrom (seen_on old) (seen_on new) (Work result) book
  moves_by true failed clean ready book left =
      moves_failed ready failed book (left_by clean ready book left)
  moves_by false served clean ready book stands = moves_served ready served clean book stands

  -- Work that is served is work of the ledger.
  work_served : IsTransition (seen_on old) (seen_on new) (Work result)
  work_served = record {
    naming = serves.naming;
    honest = was_clean;
    books = books_again;
    moves = λ clean books book stands. moves_by (is_store result) refl clean
        (books.ready is_open (was_clean clean)) book
        (subst (λ flag. may_have flag (seen_on new) book) serves.reopen stands);
    alone = λ closed. absurd (true≢false (sym closed ∙ is_open));
  }

-- a ledger is ready again if the store went back to its last commit
ready_back : {naming : Naming} {was is : Summary} {book : Book} (old middle new : View)
    → IsReadyAt naming was old book → IsRefused is old middle book → IsRolledBack middle new
    → IsReadyAt naming is new book
ready_back {naming} {was} {is} {book} old middle new ready refused back = record {
  rest = back.rest;
  kept = subst (IsStoredIn naming book)
      (ready.rest.settled ∙ sym (refused.stands.committed back.was_open) ∙ sym back.committed
      ∙ sym back.rest.settled) ready.kept;
  remembers = refused.remembers;
}

module _ {S V : Type 0} {Made : Result V LedgerFault → Book → List Event → Type 0}
    {Leaves : Book → List Event → Type 0} (ghosts : Ghosts S) (naming : Naming) (was is : Summary)
    (first middle last : S) where
  -- by what was found and how it ended
  serves_by : (flag : Bool) (tried : Result (Result V LedgerFault) StoreError)
      (result : Result V LedgerFault)
      → AttemptsBy Made Leaves naming was is (state ghosts first) (state ghosts middle) tried
      → Survives (state ghosts middle) (state ghosts last) (λ trees. ⊥)
      → Ends result false flag (last ≡ middle)
      (IsClean (ghosts.view last) → IsRolledBack (ghosts.view middle) (ghosts.view last)) tried
      → ((book : Book) → Made (Err Memory) book [])
      → ServesBy Made Leaves (state_on ghosts naming first false was)
      (state_on ghosts naming last flag is) result
  serves_by flag (Ok answer) result tries survives ends wants = record {
    naming = refl;
    served = ap is_reopen ends.0 ∙ tries.plain.served;
    reopen = ends.1 ∙ sym tries.plain.stored ∙ ap is_store (sym ends.0);
    survives = survives_then tries.survives survives;
    answered = λ open_now clean book ready.
        let before : HasCleanDisk (state ghosts middle) = clean_before survives clean in
        subst (λ (store : S). IsMade (Made result) naming is (ghosts.view store) book)
        (sym ends.2)
        (subst (λ answer. IsMade (Made answer) naming is (ghosts.view middle) book) (sym ends.0)
        (tries.found before book ready));
  }
  serves_by flag (Err error) result tries survives (inl wanting) wants = record {
    naming = refl;
    served = ap is_reopen wanting.0;
    reopen = wanting.1 ∙ sym (ap is_store wanting.0);
    survives = survives_then tries.survives survives;
    answered = λ open_now clean book ready.
        let before : HasCleanDisk (state ghosts middle) = clean_before survives clean in
        subst (λ answer. IsMade (Made answer) naming is (ghosts.view last) book) (sym wanting.0)
        (record {
          events = [];
          made = wants book;
          ready = ready_back (ghosts.view first) (ghosts.view middle) (ghosts.view last) ready
              (tries.found before book ready) (wanting.2 clean);
        });
  }
  serves_by flag (Err error) result tries survives (inr failed) wants = record {
    naming = refl;
    served = ap is_reopen failed.0;
    reopen = failed.1 ∙ sym (ap is_store failed.0);
    survives = survives_then tries.survives survives;
    answered = λ open_now clean book ready.
        absurd (true≢false (sym (ap is_store failed.0) ∙ open_now));
  }

-- Work that was tried and settled is work of the ledger, with the flags of a call.
pub work_settled : {S V : Type 0} {Made : Result V LedgerFault → Book → List Event → Type 0}
    {Leaves : Book → List Event → Type 0} {Work : Result V LedgerFault → Transition}
    {naming : Naming} {was is : Summary} {middle last : S} {before flag : Bool}
    {tried : Result (Result V LedgerFault) StoreError} {result : Result V LedgerFault}
    → ComesTo Made Leaves Work → (ghosts : Ghosts S) (first : S) → before ≡ false
    → ((store : S) → LeavesTheLast (ghosts.view store) (ghosts.recovers store))
    → Finishes ghosts middle last before flag tried result
    → AttemptsBy Made Leaves naming was is (state ghosts first) (state ghosts middle) tried
    → IsTransition (seen_on (state_on ghosts naming first before was))
    (seen_on (state_on ghosts naming last flag is)) (Work result) × Reopens result before flag
work_settled {S = S} {Made = Made} {Leaves = Leaves} {Work = Work} {naming = naming} {was = was} {is = is} {middle = middle} {last = last} {flag = flag} {tried = tried} {result = result} comes ghosts first is_open leaves settles tries =
    let old = state_on ghosts naming first in
    let new = state_on ghosts naming last flag is in
    subst (λ before. Finishes ghosts middle last before flag tried result
    → IsTransition (seen_on (old before was)) (seen_on new) (Work result)
    × Reopens result before flag) (sym is_open)
    (λ finishes.
    let serves = serves_by ghosts naming was is first middle last flag tried result tries
    finishes.survives finishes.ends comes.wanting in (
      work_served comes (old false was) new result refl (leaves first) serves,
      record { reopen = serves.served; store = serves.reopen },
    )) settles
