-- What is done to books that are kept by their names.
use Rattle.std.proofs.Common.{◌≡◌, ◌∙◌, ℕ, Bool, false, List, [], ◌++◌, refl, sym, subst, inl, inr}
use Rattle.std.proofs.Common.{Result, Ok, Err, append_assoc}
use Rattle.std.specs.Prelude.{IfErr, IfOk, OnOk}
use Rattle.book_model.specs.Words.{Book, Event, Naming, book_after, new_book}
use Rattle.book_core.specs.Transition.{Transition, NoEvent, Then}
use Rattle.book_core.proofs.TransitionLemmas.{after_all-append}
use Rattle.named_books.specs.declared.repository.RepositoryFault.{RepositoryFault}
use Rattle.named_books.specs.declared.repository.RepositoryFault.TheVariants.{Unseen}
use Rattle.named_books.specs.declared.repository.Upgraded.{Upgraded}
use Rattle.named_books.specs.Shelves.{Shelf, unknown, OpenedAnew, GoOn, IsDoneTo, IsOpened, IsMade}
use Rattle.named_books.specs.Shelves.{ComesBy, IsThere, IsTried, IsUntouched, TakesName}
use Rattle.named_books.specs.Shelves.{WhereUnopened}

-- books that nothing was done to
pub stays : (Held : List Event → Type 0) → GoOn NoEvent Held Held
stays Held history held = record {
  events = [];
  is = false;
  made = record { none = refl; same = refl };
  now = held;
}

pub untouched : (book : List ℕ) (shelf : Shelf) → IsUntouched book shelf shelf
untouched book shelf = record {
  naming = refl;
  here = stays (shelf.holds book);
  elsewhere = λ other _. stays (shelf.holds other);
  free = λ other _ free. free;
}

-- work, seen as other work
pub done_as : (book : List ℕ) (Made Other : Transition) (old new : Shelf)
    → ((before : Book) (events : List Event) (is : Bool) → Made false before events is
    → Other false before events is)
    → IsDoneTo book Made old new → IsDoneTo book Other old new
done_as book Made Other old new implies done = record {
  naming = done.naming;
  here = λ history held.
      let more = done.here history held in
      record {
        events = more.events;
        is = more.is;
        made = implies (book_after history) more.events more.is more.made;
        now = more.now;
      };
  elsewhere = done.elsewhere;
  free = done.free;
}

-- work, and then work on the books as they were opened anew
goes_on : (First Next : Transition) (One Two Three : List Event → Type 0) → GoOn First One Two
    → GoOn Next Two Three → GoOn (Then First (OpenedAnew Next)) One Three
goes_on First Next One Two Three first next history held =
    let early = first history held in
    let late = next (early.events ++ history) early.now in
    record {
      events = late.events ++ early.events;
      is = late.is;
      made = record {
        between = early.is;
        early = early.events;
        late = late.events;
        first = early.made;
        next = record {
          left = late.is;
          made = subst (λ book. Next false book late.events late.is)
              (after_all-append early.events history new_book) late.made;
        };
        all = refl;
      };
      now = subst Three (sym (append_assoc late.events early.events history)) late.now;
    }

-- nothing, and then work
still_on : (Made : Transition) (One Two Three : List Event → Type 0) → GoOn NoEvent One Two
    → GoOn Made Two Three → GoOn Made One Three
still_on Made One Two Three first next history held =
    let early = first history held in
    let still : Two history = subst (λ (events : List Event). Two (events ++ history)) early.made.none early.now in
    next history still

pub done_then : (book : List ℕ) (First : Transition) (Next : Naming → Transition)
    (one two three : Shelf) → IsDoneTo book First one two
    → IsDoneTo book (Next two.naming) two three
    → IsDoneTo book (Then First (OpenedAnew (Next one.naming))) one three
done_then book First Next one two three first next = record {
  naming = next.naming ∙ first.naming;
  here = goes_on First (Next one.naming) (one.holds book) (two.holds book) (three.holds book) first.here
      (subst (λ naming. GoOn (Next naming) (two.holds book) (three.holds book)) first.naming next.here);
  elsewhere = λ other apart. still_on NoEvent (one.holds other) (two.holds other) (three.holds other)
      (first.elsewhere other apart) (next.elsewhere other apart);
  free = λ other apart free. next.free other apart (first.free other apart free);
}

-- work after nothing was done
pub done_after : (book : List ℕ) (Made : Naming → Transition) (one two three : Shelf)
    → IsUntouched book one two → IsDoneTo book (Made two.naming) two three
    → IsDoneTo book (Made one.naming) one three
done_after book Made one two three first next = record {
  naming = next.naming ∙ first.naming;
  here = still_on (Made one.naming) (one.holds book) (two.holds book) (three.holds book) first.here
      (subst (λ naming. GoOn (Made naming) (two.holds book) (three.holds book)) first.naming next.here);
  elsewhere = λ other apart. still_on NoEvent (one.holds other) (two.holds other) (three.holds other)
      (first.elsewhere other apart) (next.elsewhere other apart);
  free = λ other apart free. next.free other apart (first.free other apart free);
}

-- books that were opened and asked nothing
pub opened_untouched : {A : Type 0} (book : List ℕ) (old new : Shelf) (answer : Result A RepositoryFault)
    → IsOpened (λ told. NoEvent) book old new answer → IsUntouched book old new
opened_untouched book old new (Ok told) done = done
opened_untouched book old new (Err Unseen) (refused, inl seen) = seen.1
opened_untouched book old new (Err Unseen) (refused, inr none) = none
opened_untouched book old new (Err fault) (refused, none) = none

-- why they were not opened
pub opened_refused : {A : Type 0} (work : A → Transition) (book : List ℕ) (old new : Shelf)
    (answer : Result A RepositoryFault) (fault : RepositoryFault)
    → IsOpened work book old new answer → answer ≡ Err fault → old.refuses book fault
opened_refused work book old new answer fault opened is =
    (subst (λ answer. IsOpened work book old new answer) is opened).0

-- where nothing is known of books
pub unknown_done : (book : List ℕ) (naming : Naming) (Made : Transition)
    → IsDoneTo book Made (unknown naming) (unknown naming)
unknown_done book naming Made = record {
  naming = refl;
  here = λ history held. absurd held;
  elsewhere = λ other _ history held. absurd held;
  free = λ other _ free. free;
}

pub unknown_untouched : (book : List ℕ) (naming : Naming)
    → IsUntouched book (unknown naming) (unknown naming)
unknown_untouched book naming = unknown_done book naming NoEvent

unknown_unopened : {A : Type 0} (work : A → Transition) (book : List ℕ) (naming : Naming)
    (fault : RepositoryFault)
    → WhereUnopened ((answer : A) × IsDoneTo book (work answer) (unknown naming) (unknown naming))
    (IsUntouched book (unknown naming) (unknown naming)) fault
unknown_unopened work book naming Unseen = inr (unknown_untouched book naming)
unknown_unopened work book naming fault = unknown_untouched book naming

pub unknown_opened : {A : Type 0} (work : A → Transition) (book : List ℕ) (naming : Naming)
    (answer : Result A RepositoryFault)
    → IsOpened work book (unknown naming) (unknown naming) answer
unknown_opened work book naming (Ok answer) = unknown_done book naming (work answer)
unknown_opened work book naming (Err fault) = (tt, unknown_unopened work book naming fault)

pub unknown_tried : {A : Type 0} (work : A → Transition) (book : List ℕ) (naming : Naming)
    (answer : Result A RepositoryFault)
    → IsTried work book (unknown naming) (unknown naming) answer
unknown_tried work book naming (Ok answer) =
    (unknown_untouched book naming, λ history held. absurd held)
unknown_tried work book naming (Err fault) = (tt, unknown_untouched book naming)

pub unknown_name : {A : Type 0} (book : List ℕ) (naming : Naming) (result : Result A RepositoryFault)
    → TakesName book (unknown naming) result
unknown_name book naming (Ok answer) = λ history held. held
unknown_name book naming (Err fault) = tt

pub unknown_made : (book : List ℕ) (naming : Naming) (result : Result (Unit {0}) RepositoryFault)
    → IsMade book (unknown naming) (unknown naming) result
unknown_made book naming (Ok made) = record {
  kept = unknown_untouched book naming;
  name = unknown_name {A = Unit {0}} book naming (Ok made);
  made = λ free. absurd free;
  refused = tt;
  why = tt;
}
unknown_made book naming (Err fault) = record {
  kept = unknown_untouched book naming;
  name = unknown_name {A = Unit {0}} book naming (Err fault);
  made = tt;
  refused = λ free. absurd free;
  why = tt;
}

pub unknown_refused : {A : Type 0} (book : List ℕ) (naming : Naming)
    (answer : Result A RepositoryFault) → IfErr answer ((unknown naming).refuses book)
unknown_refused book naming (Ok answer) = tt
unknown_refused book naming (Err fault) = tt

pub unknown_upgraded : (book : List ℕ) (naming : Naming) (answer : Result Upgraded RepositoryFault)
    → IfOk answer ((unknown naming).upgrades book)
unknown_upgraded book naming (Ok told) = tt
unknown_upgraded book naming (Err fault) = tt

pub unknown_found : {A : Type 0} (book : List ℕ) (naming : Naming)
    (answer : Result A RepositoryFault) → OnOk answer ((unknown naming).is_free book → ⊥)
unknown_found book naming (Ok answer) = λ free. free
unknown_found book naming (Err fault) = tt

pub unknown_there : {A : Type 0} (book : List ℕ) (naming : Naming)
    (answer : Result A RepositoryFault) → IsThere book (unknown naming) (unknown naming) answer
unknown_there book naming (Ok answer) = λ free. free
unknown_there book naming (Err fault) = λ free. free

-- a visit that was not made is as it is, whatever the fault
pub same_where : (Visited Same : Type 0) (fault : RepositoryFault) → Same
    → WhereUnopened Visited Same fault
same_where Visited Same Unseen same = inr same
same_where Visited Same fault same = same

-- what comes of a visit, by what is told of it
pub came_by : {A : Type 0} (Came : A → Type 0) (Same : Type 0) (answer : A)
    (told : Result A RepositoryFault) → told ≡ Ok answer → Came answer → ComesBy Came Same told
came_by Came Same answer told is came = subst (λ told. ComesBy Came Same told) (sym is) came

pub same_by : {A : Type 0} (Came : A → Type 0) (Same : Type 0) (fault : RepositoryFault)
    (told : Result A RepositoryFault) → told ≡ Err fault → Same → ComesBy Came Same told
same_by {A} Came Same fault told is same =
    subst (λ told. ComesBy Came Same told) (sym is)
    (same_where ((answer : A) × Came answer) Same fault same)
