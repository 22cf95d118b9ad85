-- What work on an open ledger leaves of it, if it is still open.
use Rattle.std.proofs.Common.{◌≡◌, ◌∙◌, false, List, refl, sym, subst}
use Rattle.std.proofs.lemmas.Bool.{false_from_ne_true}
use Rattle.book_model.specs.Words.{Book, Event, after_all, Naming}
use Rattle.book_core.specs.Ledgers.{Seen, MayHave, may_have, IsOpenAt}
use Rattle.book_core.specs.Transition.{Transition, IsTransition}
use Rattle.book_core.proofs.OpenLemmas.{opened_leads}
use Rattle.office.specs.Laws.{IsStillOpen}

-- an open ledger is at its own book
stands_open : (seen : Seen) → seen.must_reopen ≡ false → MayHave seen seen.book
stands_open seen is_open = subst (λ shut. may_have shut seen seen.book) (sym is_open) refl

-- the work made events of the book, and the ledger is open at the book after them
pub record Leaves (naming : Naming) (Made : Transition) (start : Book) (new : Seen) : Type 0 where
  pub events : List Event
  pub made : Made false start events false
  pub left : IsOpenAt naming (after_all events start) new

pub work_leaves : {naming : Naming} {start : Book} {old new : Seen} {Made : Transition}
    → IsOpenAt naming start old → IsTransition old new Made → IsStillOpen new
    → Leaves naming Made start new
work_leaves {start = start} {new = new} {Made = Made} opened work still =
    let come = opened_leads opened work still.honest new.book (stands_open new still.is_open) in
    record {
      events = come.events;
      made = subst (λ shut. Made false start come.events shut) still.is_open come.made;
      left = record {
        book = come.leads;
        naming = work.naming ∙ opened.naming;
        is_open = still.is_open;
        honest = still.honest;
        books = work.books still.honest opened.books;
      };
    }

-- a ledger that work left open was open before it
pub open_earlier : {old new : Seen} {Made : Transition} → IsTransition old new Made → IsStillOpen new
    → IsStillOpen old
open_earlier {old = old} work still = record {
  is_open = false_from_ne_true old.must_reopen (λ shut.
      let reopened = (work.alone shut).reopen in
      let is_open = still.is_open in
      cc);
  honest = work.honest still.honest;
}
