-- Lists that are read one item at a time: all calls show one book.
use Rattle.std.proofs.Common.{◌≡◌, ◌∙◌, ℕ, ◌+◌, List, [], ◌∷◌, ◌++◌, map, take, refl, sym, ap}
use Rattle.std.proofs.Common.{subst, Option, Some, None, Result, Ok, Err, option_map, slice_get}
use Rattle.std.proofs.Common.{IfOk, IfSome}
use Rattle.book_model.specs.Words.{Book, Naming, Outcome, no_event}
use Rattle.book_core.specs.Words.{Seen, IsCall}
use Rattle.book_lists.proofs.Words.{LedgerFault, Memory, IsNext, shown_by}
use Rattle.book_lists.specs.Cursors.{Folds, last_of}
use Rattle.book_lists.proofs.FrontLemmas.{IsFront, front_all, front_taken}
use Rattle.book_lists.proofs.ReadingLemmas.{by_names, call_failed, fault_alike, fault_tells}
use Rattle.book_lists.proofs.ReadingLemmas.{read_as}
use Rattle.book_lists.proofs.ShownLemmas.{Shows, answers, answers_none, refused_next, shown}
use Rattle.book_lists.proofs.ShownLemmas.{shown_as, then_shown}
use Rattle.book_lists.proofs.WritingLemmas.{same_value}

-- what is shown of an answer was answered
pub shown_back : {A B : Type 0} (show : A → B) (answer : Result A LedgerFault) (seen : B)
    → shown_by show answer ≡ Ok seen → (given : A) × (answer ≡ Ok given) × (show given ≡ seen)
shown_back show (Ok given) seen is = (given, refl, same_value is)
shown_back show (Err fault) seen is = cc

-- and what is refused was refused
pub refused_back : {A B : Type 0} (show : A → B) (answer : Result A LedgerFault)
    (fault : LedgerFault) → shown_by show answer ≡ Err fault → answer ≡ Err fault
refused_back show (Ok given) fault is = cc
refused_back show (Err other) fault is = cc

-- the last of some items and one more
pub last_of-push : {X : Type 0} (read : List X) (item : X) → last_of (read ++ item ∷ []) ≡ Some item
last_of-push [] item = refl
last_of-push (first ∷ []) item = refl
last_of-push (first ∷ next ∷ more) item = last_of-push (next ∷ more) item

pub map_push : {I X : Type 0} (view : I → X) (read : List I) (item : I)
    → map view read ++ view item ∷ [] ≡ map view (read ++ item ∷ [])
map_push view [] item = refl
map_push view (first ∷ more) item = ap (λ rest. view first ∷ rest) (map_push view more item)

-- so many of the items that a book answers were read, and the next one
pub record Reads {X : Type 0} (answer : Result (List X) LedgerFault) (count : ℕ) (read : List X)
    (next : Option X) : Type 0 where
  pub items : List X
  pub answered : answer ≡ Ok items
  pub those : IsFront items count read next

-- the same of whatever book the ledger may have
pub record HasRead {X : Type 0} (all : Naming → Book → Result (List X) LedgerFault) (old new : Seen)
    (count : ℕ) (read : List X) (next : Option X) : Type 0 where
  pub shows : Shows old new (λ book. Reads (all old.naming book) count read next)

-- the next one is the last that was read, when it was
read_last : {X : Type 0} {answer : Result (List X) LedgerFault} {count : ℕ} {read : List X}
    {next : Option X} (item : X) → next ≡ Some item → Reads answer count read next
    → (items : List X) → answer ≡ Ok items → Some item ≡ last_of (take (count + 1) items)
read_last {count = count} {read = read} item is it items answered =
    subst (λ items. Some item ≡ last_of (take (count + 1) items))
    (same_value (sym it.answered ∙ answered))
    (sym (ap last_of (front_taken it.those is) ∙ last_of-push read item))

module _ {I X : Type 0} (view : I → X) (all : Naming → Book → Result (List X) LedgerFault)
    (asked : Naming → ℕ → Option X → Book → Result (Option X) LedgerFault)
    (in_turn : (naming : Naming) (book : Book) (count : ℕ) (last : Option X)
    → IsNext (all naming book) count last (asked naming count last book))
  where
    -- the first item is refused as the list is
    pub first_refused : (naming : Naming) (book : Book) (fault : LedgerFault)
        → asked naming 0 None book ≡ Err fault → all naming book ≡ Err fault
    first_refused naming book fault said =
        refused_back (λ items. slice_get items 0) (all naming book) fault
        (sym (in_turn naming book 0 None (λ items is. refl)) ∙ said)

    -- and so is one that follows
    pub next_refused : {count : ℕ} {read : List X} {next : Option X} (naming : Naming) (book : Book)
        (item : X) (fault : LedgerFault) → next ≡ Some item → Reads (all naming book) count read next
        → asked naming (count + 1) (Some item) book ≡ Err fault → all naming book ≡ Err fault
    next_refused {count} naming book item fault is it said =
        refused_back (λ items. slice_get items (count + 1)) (all naming book) fault
        (sym (in_turn naming book (count + 1) (Some item) (read_last item is it)) ∙ said)

    -- at first there is a next one alone, or none
    pub first_read : (old new : Seen) (next : Option I)
        → IsCall (option_map view) old new (Ok next) (λ book. no_event (asked old.naming 0 None book))
        → HasRead all old new 0 [] (option_map view next)
    first_read old new next call = record {
      shows = shown_as (λ book said.
          let it = shown_back (λ items. slice_get items 0) (all old.naming book)
          (option_map view next)
          (sym (in_turn old.naming book 0 None (λ items is. refl)) ∙ said) in
          record {
            items = it.0;
            answered = it.1;
            those = record { front = refl; there = it.2 };
          })
          (shown (λ book. refl) call);
    }

    -- and then the one after it
    pub one_more_read : (old mid new : Seen) (count : ℕ) (read : List X) (item : X)
        (next : Option X) (after : Option I) → next ≡ Some item
        → HasRead all old mid count read next
        → IsCall (option_map view) mid new (Ok after)
        (λ book. no_event (asked mid.naming (count + 1) (Some item) book))
        → HasRead all old new (count + 1) (read ++ item ∷ []) (option_map view after)
    one_more_read old mid new count read item next after is far call = record {
      shows = then_shown (λ book. refl)
          (λ book it late. record {
            items = it.items;
            answered = it.answered;
            those = record {
              front = front_taken it.those is;
              there = same_value (ap (shown_by (λ items. slice_get items (count + 1))) (sym it.answered)
                  ∙ sym (in_turn old.naming book (count + 1) (Some item) (read_last item is it))
                  ∙ late);
            };
          })
          far.shows
          (by_names (λ naming book. no_event (asked naming (count + 1) (Some item) book))
          far.shows.work.naming call);
    }

    -- ---- what the items come to

    module _ {S : Type 0} (Has : S → List I → Type 0) where
      -- items were read, and the state is what they come to
      pub record FoldsSoFar (old new : Seen) (count : ℕ) (next : Option I) (state : S) : Type 0 where
        pub read : List I
        pub far : HasRead all old new count (map view read) (option_map view next)
        pub has : Has state read

      pub fold_unread : (old new : Seen) (fault : LedgerFault)
          → IsCall (option_map view) old new (Err fault)
          (λ book. no_event (asked old.naming 0 None book))
          → Folds view old new (all old.naming) Has (Err fault)
      fold_unread old new fault call = record {
        items = [];
        read = call_failed (Err fault) refl (λ book. refl) (λ book. refl)
            (λ book. first_refused old.naming book fault) call;
        has = tt;
      }

      pub fold_begun : (old new : Seen) (next : Option I) (state : S)
          → IsCall (option_map view) old new (Ok next)
          (λ book. no_event (asked old.naming 0 None book))
          → Has state [] → FoldsSoFar old new 0 next state
      fold_begun old new next state call none = record {
        read = [];
        far = first_read old new next call;
        has = none;
      }

      pub fold_unbegun : {old new : Seen} {count : ℕ} {read : List X} {next : Option X}
          → HasRead all old new count read next → Folds view old new (all old.naming) Has (Err Memory)
      fold_unbegun far = record { items = []; read = answers_none (λ book. refl) far.shows; has = tt }

module _ {I X S : Type 0} {view : I → X} {all : Naming → Book → Result (List X) LedgerFault}
    {asked : Naming → ℕ → Option X → Book → Result (Option X) LedgerFault}
    {in_turn : (naming : Naming) (book : Book) (count : ℕ) (last : Option X)
    → IsNext (all naming book) count last (asked naming count last book)}
    {Has : S → List I → Type 0} {old mid : Seen} {count : ℕ} {next : Option I} {state : S}
    (it : FoldsSoFar view all asked in_turn Has old mid count next state)
  where
    -- there are no more
    pub fold_ended : next ≡ None → Folds view old mid (all old.naming) Has (Ok state)
    fold_ended last = record {
      items = it.read;
      read = answers state (λ book. refl)
          (λ book known. known.answered
          ∙ ap Ok (sym (front_all known.those (ap (option_map view) last))))
          it.far.shows;
      has = it.has;
    }

    -- memory ran out
    pub fold_stopped : Folds view old mid (all old.naming) Has (Err Memory)
    fold_stopped = fold_unbegun view all asked in_turn Has it.far

    -- the ledger refused the next call
    pub fold_refused : (new : Seen) (item : I) (fault : LedgerFault) → next ≡ Some item
        → IsCall (option_map view) mid new (Err fault)
        (λ book. no_event (asked mid.naming (count + 1) (Some (view item)) book))
        → Folds view old new (all old.naming) Has (Err fault)
    fold_refused new item fault is call = record {
      items = [];
      read = refused_next (Err fault) refl (λ book. refl) (λ book. refl)
          (λ book known. next_refused view all asked in_turn old.naming book (view item) fault
          (ap (option_map view) is) known)
          it.far.shows
          (by_names (λ naming book. no_event (asked naming (count + 1) (Some (view item)) book))
          it.far.shows.work.naming call);
      has = tt;
    }

    -- or it goes on
    pub fold_more : (new : Seen) (item : I) (after : Option I) (more : S) → next ≡ Some item
        → ((items : List I) → Has state items → Has more (items ++ item ∷ []))
        → IsCall (option_map view) mid new (Ok after)
        (λ book. no_event (asked mid.naming (count + 1) (Some (view item)) book))
        → FoldsSoFar view all asked in_turn Has old new (count + 1) after more
    fold_more new item after more is adds call = record {
      read = it.read ++ item ∷ [];
      far = subst (λ read. HasRead all old new (count + 1) read (option_map view after))
          (map_push view it.read item)
          (one_more_read view all asked in_turn old mid new count (map view it.read) (view item)
          (option_map view next) after (ap (option_map view) is) it.far call);
      has = adds it.read it.has;
    }

-- ---- what is made of them by a definition over the whole list

-- the fold answers what the list of the book comes to
pub folded : {S I X A : Type 0} {view : I → X} {old new : Seen}
    {all : Book → Result (List X) LedgerFault} {Has : S → List I → Type 0}
    {result : Result S LedgerFault} (show : S → A) (sum : List X → A)
    → Folds view old new all Has result
    → ((state : S) (items : List I) → Has state items → show state ≡ sum (map view items))
    → IsCall show old new result (λ book. no_event (shown_by sum (all book)))
folded {result = Ok state} show sum it makes =
    read_as (λ book. refl) (λ book. refl) (record { reopen = refl; store = refl })
    (λ book said. ap (shown_by sum) said ∙ ap Ok (sym (makes state it.items it.has))) it.read
folded {S = S} {view = view} {result = Err fault} show sum it makes =
    read_as (λ book. refl) (λ book. refl) (fault_alike fault)
    (λ book. fault_tells (λ (state : S). map view it.items) show fault (ap (shown_by sum))) it.read

-- ---- items of which nothing has to be known

pub nothing_known : {I : Type 0} (result : Result (Option I) LedgerFault)
    → IfOk result (λ found. IfSome found (λ item. Unit {0}))
nothing_known (Ok None) = tt
nothing_known (Ok (Some item)) = tt
nothing_known (Err fault) = tt

-- ---- items that the definitions see as they are

found_same : {I : Type 0} (found : Option I) → found ≡ option_map (λ item. item) found
found_same None = refl
found_same (Some item) = refl

pub map_same : {I : Type 0} (items : List I) → items ≡ map (λ item. item) items
map_same [] = refl
map_same (item ∷ more) = ap (λ rest. item ∷ rest) (map_same more)

pub as_found : {I : Type 0} {old new : Seen} {result : Result (Option I) LedgerFault} (last : Option I)
    (outcome : Option I → Book → Outcome (Option I))
    → IsCall (λ found. found) old new result (outcome last)
    → IsCall (option_map (λ item. item)) old new result (outcome (option_map (λ item. item) last))
as_found {old = old} {new = new} {result = result} last outcome call =
    subst (λ last. IsCall (option_map (λ item. item)) old new result (outcome last)) (found_same last)
    (subst (λ view. IsCall view old new result (outcome last)) (λ i found. found_same found i) call)
