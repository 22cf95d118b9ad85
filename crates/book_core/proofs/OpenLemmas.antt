-- Work on a ledger that is open at a book.
use Rattle.std.proofs.Common.{◌≡◌, ◌∙◌, Bool, false, List, ap, subst}
use Rattle.book_model.specs.Words.{Book, Event, after_all, Naming}
use Rattle.book_core.specs.Words.{Seen, MayHave, may_have, IsOpenAt, Transition, IsTransition}

-- an open ledger is at its own book, and at no other
pub stood_open : {naming : Naming} {start : Book} {seen : Seen} → IsOpenAt naming start seen
    → (book : Book) → MayHave seen book → book ≡ start
stood_open {seen = seen} opened book stood =
    subst (λ shut. may_have shut seen book) opened.is_open stood ∙ opened.book

-- the work made events of one book, and they lead to the other
pub record Leads (Made : Transition) (start : Book) (is : Bool) (book : Book) : Type 0 where
  pub events : List Event
  pub made : Made false start events is
  pub leads : book ≡ after_all events start

-- so it is of whatever book the ledger may be at now
pub opened_leads : {naming : Naming} {start : Book} {old new : Seen} {Made : Transition}
    → IsOpenAt naming start old → IsTransition old new Made → new.is_honest → (book : Book)
    → MayHave new book → Leads Made start new.must_reopen book
opened_leads {start = start} {old = old} {new = new} {Made = Made} opened work honest book stands =
    let come = work.moves honest opened.books book stands in
    let was : come.before ≡ start = stood_open opened come.before come.stood in
    record {
      events = come.events;
      made = subst (λ shut. Made shut start come.events new.must_reopen) opened.is_open
          (subst (λ before. Made old.must_reopen before come.events new.must_reopen) was come.made);
      leads = come.leads ∙ ap (after_all come.events) was;
    }
