-- What is known of books in memory, and what is done to them.
use Rattle.std.proofs.Common.{◌≡◌, ◌≢◌, ◌∙◌, false, ℕ, List, [], ◌∷◌, ◌++◌, Option, Some, None}
use Rattle.std.proofs.Common.{Result, Ok, Err, ◌⊎◌, ap, refl, subst, sym, string_bytes}
use Rattle.book_model.specs.Words.{Event, Naming, after_all, book_after, book_of, new_book}
use Rattle.book_model.proofs.Lemmas.{books_follow_history}
use Rattle.book_core.specs.Words.{IsOpenAt, Seen, may_have, IsTransition, Transition}
use Rattle.book_core.proofs.TransitionLemmas.{after_all-append}
use Rattle.book_audit.specs.Copies.{IsAudited, IsCopied}
use Rattle.book_audit.specs.Counts.{AreCountsOf}
use Rattle.book_audit.specs.declared.audited.Audited.TheVariants.{Sound}
use Rattle.book_audit.specs.declared.audited.Counts.{Counts}
use Rattle.named_books.specs.Shelves.{HoldsMore, IsDoneTo, IsMade, IsUntouched, TriesOn}
use Rattle.named_books.specs.declared.repository.RepositoryFault.{RepositoryFault}
use Rattle.named_books.specs.declared.repository.RepositoryFault.TheVariants.{Io}
use Rattle.named_books.proofs.ShelfLemmas.{untouched}
use Rattle.memory_books.specs.declared.places.Kept.{Kept}
use Rattle.memory_books.specs.Kept.{Keeps, Puts, books_at}
use Rattle.memory_books.specs.MemoryShelf.{Holds, RefusedFor, shelf_of}
use Rattle.memory_books.proofs.KeptLemmas.{at_end, at_end_other}

-- what an option has
abbrev had : {A : Type 0} → A → Option A → A
had other None = other
had other (Some one) = one

-- what is found is one
pub same_one : {A : Type 0} (found : Option A) (one two : A) → found ≡ Some one → found ≡ Some two
    → one ≡ two
same_one found one two is so = ap (had one) (sym is ∙ so)

none_here : {A : Type 0} (found : Option A) (one : A) → found ≡ None → found ≡ Some one → ⊥
none_here found one none some = let no = sym none ∙ some in cc no

module _ {L : Type 0} (seen : L → Seen) (names : Naming)
    (stays : (books : L) → IsOpenAt names (seen books).book (seen books)) where
  -- work on books that stay open, by the history before it
  pub worked : (one two : L) (Made : Naming → Transition) (history : List Event)
      → IsTransition (seen one) (seen two) (Made (seen one).naming) → (seen one).book ≡ book_of history
      → HoldsMore (Made names) history (λ events. (seen two).book ≡ book_of events)
  worked one two Made history work is =
      let before = stays one in
      let after = stays two in
      let come = work.moves after.honest before.books (seen two).book
      (subst (λ closed. may_have closed (seen two) (seen two).book) (sym after.is_open) refl) in
      let stood : come.before ≡ book_after history =
      subst (λ closed. may_have closed (seen one) come.before) before.is_open come.stood ∙ is
      ∙ sym (books_follow_history history) in
      record {
        events = come.events;
        is = (seen two).must_reopen;
        made = subst
            (λ naming. Made naming false (book_after history) come.events (seen two).must_reopen)
            before.naming
            (subst
            (λ was. Made (seen one).naming was (book_after history) come.events (seen two).must_reopen)
            before.is_open
            (subst
            (λ book. Made (seen one).naming (seen one).must_reopen book come.events
            (seen two).must_reopen)
            stood come.made));
        now = come.leads ∙ ap (after_all come.events) stood
            ∙ sym (after_all-append come.events history new_book)
            ∙ books_follow_history (come.events ++ history);
      }

  -- the books of a name were put in the place of those that work was done on
  pub put_done : (name : List ℕ) (one two : L) (old new : List (Kept L)) (Made : Naming → Transition)
      → Puts name one two old new → IsTransition (seen one) (seen two) (Made (seen one).naming)
      → IsDoneTo name (Made names) (shelf_of seen names old) (shelf_of seen names new)
  put_done name one two old new Made put work = record {
    naming = refl;
    here = λ history held.
        let same = same_one (books_at old name) one held.books put.was held.here in
        let more = worked one two Made history work (ap (λ books. (seen books).book) same ∙ held.is) in
        record {
          events = more.events;
          is = more.is;
          made = more.made;
          now = record { books = two; here = put.is; is = more.now };
        };
    elsewhere = λ other apart history held. record {
      events = [];
      is = false;
      made = record { none = refl; same = refl };
      now = record { books = held.books; here = put.others other apart ∙ held.here; is = held.is };
    };
    free = λ other apart free. put.others other apart ∙ free;
  }

  -- a visit of a copy did to it what it would have done to the books
  pub copy_tried : (name : List ℕ) (kept : List (Kept L)) (one copy two : L) (Made : Naming → Transition)
      → books_at kept name ≡ Some one → IsOpenAt names (seen one).book (seen copy)
      → IsTransition (seen copy) (seen two) (Made (seen copy).naming)
      → TriesOn (Made names) name (shelf_of seen names kept)
  copy_tried name kept one copy two Made here same work history held =
      let is = same_one (books_at kept name) one held.books here held.here in
      let more = worked copy two Made history work
      (same.book ∙ ap (λ books. (seen books).book) is ∙ held.is) in
      (more.events, more.is, more.made)

  -- books behind the others, under a name that nobody had
  pub added_untouched : (name : List ℕ) (old new : List (Kept L)) (one : Kept L)
      → books_at old name ≡ None → string_bytes one.name ≡ name → new ≡ old ++ one ∷ []
      → IsUntouched name (shelf_of seen names old) (shelf_of seen names new)
  added_untouched name old new one none named is = record {
    naming = refl;
    here = λ history held. absurd (none_here (books_at old name) held.books none held.here);
    elsewhere = λ other apart history held. record {
      events = [];
      is = false;
      made = record { none = refl; same = refl };
      now = record { books = held.books; here = stays_at other apart ∙ held.here; is = held.is };
    };
    free = λ other apart free. stays_at other apart ∙ free;
  }
    where
      stays_at : (other : List ℕ) → other ≢ name → books_at new other ≡ books_at old other
      stays_at other apart =
          ap (λ kept. books_at kept other) is
          ∙ at_end_other old one other (λ same. apart (sym same ∙ named))

  -- they hold the history that they held
  pub added_holds : (name : List ℕ) (old new : List (Kept L)) (one : Kept L) (books : L)
      (history : List Event) → books_at old name ≡ None → string_bytes one.name ≡ name
      → one.books ≡ books → new ≡ old ++ one ∷ [] → (seen books).book ≡ book_of history
      → Holds seen (books_at new name) history
  added_holds name old new one books history none named same is holds = record {
    books = books;
    here = ap (λ kept. books_at kept name) is ∙ at_end old one name none named ∙ ap Some same;
    is = holds;
  }

  -- new books were made
  pub made_new : (name : List ℕ) (old new : List (Kept L)) (one : Kept L) (books : L)
      → books_at old name ≡ None → string_bytes one.name ≡ name → one.books ≡ books
      → new ≡ old ++ one ∷ [] → IsOpenAt names new_book (seen books)
      → IsMade name (shelf_of seen names old) (shelf_of seen names new) (Ok tt)
  made_new name old new one books none named same is begun = record {
    kept = added_untouched name old new one none named is;
    name = λ history held. none_here (books_at old name) held.books none held.here;
    made = λ free. added_holds name old new one books [] none named same is begun.book;
    refused = tt;
    why = tt;
  }

  -- or none were
  pub made_none : (name : List ℕ) (kept : List (Kept L)) (fault : RepositoryFault)
      → RefusedFor fault (books_at kept name)
      → IsMade name (shelf_of seen names kept) (shelf_of seen names kept) (Err fault)
  made_none name kept fault why = record {
    kept = untouched name (shelf_of seen names kept);
    name = tt;
    made = tt;
    refused = λ free. free;
    why = why;
  }

  -- they were kept, or memory ran out
  pub made_by : (name : List ℕ) (old new : List (Kept L)) (books : L)
      (result : Result (Unit {0}) RepositoryFault) → books_at old name ≡ None
      → IsOpenAt names new_book (seen books) → Keeps name books old new result
      → IsMade name (shelf_of seen names old) (shelf_of seen names new) result
  made_by name old new books (Ok done) none begun kept =
      made_new name old new kept.0 books none kept.1 kept.2 kept.3 begun
  made_by name old new books (Err fault) none begun kept =
      subst
      (λ now. IsMade name (shelf_of seen names old) (shelf_of seen names now) (Err fault)) (sym kept.1)
      (made_none name old fault (subst (λ fault. RefusedFor fault (books_at old name)) (sym kept.0) tt))

  -- nothing has the name, or something has
  pub refused_none : (name : List ℕ) (kept : List (Kept L)) → books_at kept name ≡ None
      → RefusedFor Io (books_at kept name)
  refused_none name kept none = subst (RefusedFor Io) (sym none) tt

  -- books were counted
  pub audited_counts : (name : List ℕ) (kept : List (Kept L)) (one : L) (counts : Counts)
      → books_at kept name ≡ Some one → AreCountsOf (seen one).book counts
      → IsAudited name (shelf_of seen names kept) (Ok (Sound counts))
  audited_counts name kept one counts here are = (
    λ text said. record { books = one; here = here; counts = counts; are = are; says = said },
    λ history held. subst (λ book. AreCountsOf book counts) (is_of history held) are,
  )
    where
      is_of : (history : List Event) → Holds seen (books_at kept name) history
          → (seen one).book ≡ book_of history
      is_of history held =
          ap (λ books. (seen books).book) (same_one (books_at kept name) one held.books here held.here)
          ∙ held.is

  -- and copied
  pub copied_counts : (name copy : List ℕ) (old new : List (Kept L)) (one copied : L) (it : Kept L)
      (counts : Counts) → books_at old name ≡ Some one → books_at old copy ≡ None
      → AreCountsOf (seen one).book counts → IsOpenAt names (seen one).book (seen copied)
      → string_bytes it.name ≡ copy → it.books ≡ copied → new ≡ old ++ it ∷ []
      → IsCopied name copy (shelf_of seen names old) (shelf_of seen names new) (Ok (Sound counts))
  copied_counts name copy old new one copied it counts here none are same named is added = record {
    kept = added_untouched copy old new it none named added;
    name = λ history held. none_here (books_at old copy) held.books none held.here;
    copied = λ free history held.
        let so : (seen one).book ≡ book_of history =
        ap (λ books. (seen books).book) (same_one (books_at old name) one held.books here held.here)
        ∙ held.is in (
          added_holds copy old new it copied history none named is added (same.book ∙ so),
          subst (λ book. AreCountsOf book counts) so are,
        );
    told = (audited_counts name old one counts here are).0;
    why = tt;
  }

  -- and kept
  pub copied_by : (name copy : List ℕ) (old new : List (Kept L)) (one copied : L) (counts : Counts)
      (result : Result (Unit {0}) RepositoryFault) → books_at old name ≡ Some one
      → books_at old copy ≡ None → AreCountsOf (seen one).book counts
      → IsOpenAt names (seen one).book (seen copied) → Keeps copy copied old new result
      → result ≡ Ok tt
      → IsCopied name copy (shelf_of seen names old) (shelf_of seen names new) (Ok (Sound counts))
  copied_by name copy old new one copied counts result here none are same keeps is =
      let kept = subst (λ result. Keeps copy copied old new result) is keeps in
      copied_counts name copy old new one copied kept.0 counts here none are same kept.1 kept.2 kept.3

  -- or not
  pub not_copied : (name copy : List ℕ) (kept : List (Kept L)) (fault : RepositoryFault)
      → (RefusedFor fault (books_at kept name)) ⊎ (RefusedFor fault (books_at kept copy))
      → IsCopied name copy (shelf_of seen names kept) (shelf_of seen names kept) (Err fault)
  not_copied name copy kept fault why = record {
    kept = untouched copy (shelf_of seen names kept);
    name = tt;
    copied = λ free. free;
    told = tt;
    why = why;
  }
