-- Work on a ledger, part by part.
use Rattle.std.proofs.Common.{◌≡◌, ◌∙◌, Bool, true, false, List, [], ◌∷◌, ◌++◌, refl, sym, ap}
use Rattle.std.proofs.Common.{subst, ◌||◌, Err, ◌⊎◌}
use Rattle.book_model.specs.declared.fault.LedgerFault.{LedgerFault}
use Rattle.book_model.specs.declared.fault.LedgerFault.TheVariants.{Memory, Store, Reopen}
use Rattle.book_model.specs.Words.{Book, Event, after, after_all, Outcome}
use Rattle.book_core.specs.Words.{Seen, Transition, NoEvent, Then, IsTransition, Calls, listed}

-- the book after events and others
pub after_all-append : (late early : List Event) (book : Book)
    → after_all (late ++ early) book ≡ after_all late (after_all early book)
after_all-append [] early book = refl
after_all-append (event ∷ late) early book = ap (after event) (after_all-append late early book)

-- work that does nothing
pub no_work : (seen : Seen) → IsTransition seen seen NoEvent
no_work seen = record {
  naming = refl;
  honest = λ honest. honest;
  books = λ honest books. books;
  moves = λ honest books book stands. record {
    before = book;
    events = [];
    stood = stands;
    made = record { none = refl; same = refl };
    leads = refl;
  };
  alone = λ reopen. record { reopen = reopen; left = λ book left. left };
}

-- work, and then other work
pub work_then : (one two three : Seen) (First Next : Transition) → IsTransition one two First
    → IsTransition two three Next → IsTransition one three (Then First Next)
work_then one two three First Next first next = record {
  naming = next.naming ∙ first.naming;
  honest = λ honest. first.honest (next.honest honest);
  books = λ honest books. next.books honest (first.books (next.honest honest) books);
  moves = λ honest books book stands.
      let later = next.moves honest (first.books (next.honest honest) books) book stands in
      let earlier = first.moves (next.honest honest) books later.before later.stood in
      record {
        before = earlier.before;
        events = later.events ++ earlier.events;
        stood = earlier.stood;
        made = record {
          between = two.must_reopen;
          early = earlier.events;
          late = later.events;
          first = earlier.made;
          next = subst (λ middle. Next two.must_reopen middle later.events three.must_reopen)
              earlier.leads later.made;
          all = refl;
        };
        leads = later.leads ∙ ap (after_all later.events) earlier.leads
            ∙ sym (after_all-append later.events earlier.events earlier.before);
      };
  alone = λ reopen.
      let before = first.alone reopen in
      let behind = next.alone before.reopen in
      record {
        reopen = behind.reopen;
        left = λ book left. behind.left book (before.left book left);
      };
}

-- whatever is work of the one kind is also work of the other
abbrev pub Implies : Transition → Transition → Type 0
Implies One Other =
    (was : Bool) (before : Book) (events : List Event) (is : Bool) → One was before events is
    → Other was before events is

-- work, seen as other work
pub work_as : (old new : Seen) (Made Other : Transition) → Implies Made Other
    → IsTransition old new Made → IsTransition old new Other
work_as old new Made Other implies work = record {
  naming = work.naming;
  honest = work.honest;
  books = work.books;
  moves = λ honest books book stands.
      let come = work.moves honest books book stands in
      record {
        before = come.before;
        events = come.events;
        stood = come.stood;
        made = implies old.must_reopen come.before come.events new.must_reopen come.made;
        leads = come.leads;
      };
  alone = work.alone;
}

-- How a call failed: memory ran out; the store of an open ledger failed, and the event may have
-- been made; the ledger was to be reopened; or an open ledger refused the call.
pub data Fails {A : Type 0} (outcome : Outcome A) (fault : LedgerFault) (was : Bool)
    (events : List Event) (is : Bool) : Type 0 where
  wanting : fault ≡ Memory → events ≡ [] → is ≡ was → Fails outcome fault was events is
  failed : fault ≡ Store → was ≡ false → is ≡ true
      → (events ≡ []) ⊎ (events ≡ listed outcome.event) → Fails outcome fault was events is
  to_reopen : fault ≡ Reopen → was ≡ true → is ≡ true → events ≡ []
      → Fails outcome fault was events is
  refused : outcome.answer ≡ Err fault → was ≡ false → is ≡ false → events ≡ []
      → Fails outcome fault was events is

-- the ledger stays as it was where no store failed
stays_as : (was is : Bool) → is ≡ (was || false) → false ≡ was → is ≡ was
stays_as was is store open_before =
    store ∙ ap (λ b. b || false) (sym open_before) ∙ open_before

pub fails : {V A : Type 0} (view : V → A) (outcome : Book → Outcome A) (fault : LedgerFault)
    (was : Bool) (before : Book) (events : List Event) (is : Bool)
    → Calls view outcome (Err fault) was before events is
    → Fails (outcome before) fault was events is
fails view outcome Memory was before events is called =
    wanting refl called.makes (stays_as was is called.reopens.store called.reopens.reopen)
fails view outcome Store was before events is called =
    failed refl (sym called.reopens.reopen)
    (called.reopens.store ∙ ap (λ b. b || true) (sym called.reopens.reopen)) called.makes
fails view outcome Reopen was before events is called =
    to_reopen refl (sym called.reopens.reopen)
    (called.reopens.store ∙ ap (λ b. b || false) (sym called.reopens.reopen)) called.makes
fails view outcome fault was before events is called =
    refused called.makes.0 (sym called.reopens.reopen)
    (stays_as was is called.reopens.store called.reopens.reopen ∙ sym called.reopens.reopen)
    called.makes.1
