-- Sessions on the files of books, one after another.
use Rattle.std.proofs.Common.{◌≡◌, ◌∙◌, ◌<◌, ℕ, suc, Bool, true, false, List, [], ◌++◌, refl, sym}
use Rattle.std.proofs.Common.{subst, append_assoc}
use Rattle.std.proofs.Math.Logic.{∥∥₁_elim, ∥∥₁_map, ∥∥₁_prop}
use Rattle.sqlite_trees.specs.Tree.{Trees}
use Rattle.sqlite_trees.specs.View.{View, IsClean}
use Rattle.sqlite_wal.specs.Recovery.{Image}
use Rattle.book_model.specs.Words.{AreMadeOf, Book, Event, Naming, after_all, book_after, new_book}
use Rattle.book_core.specs.Ledgers.{Seen, IsOpenAt, may_have}
use Rattle.book_core.specs.Transition.{Transition, NoEvent, IsTransition}
use Rattle.book_core.specs.Follow.{MakesAnswered}
use Rattle.book_core.proofs.FollowLemmas.{history_goes_on, made_more, none_answered}
use Rattle.book_core.proofs.InTurnLemmas.{Adds, AllAdd, in_turn}
use Rattle.book_core.proofs.OpenLemmas.{opened_leads}
use Rattle.book_core.proofs.TransitionLemmas.{after_all-append}
use Rattle.book_trees.specs.LedgerFiles.{HoldsBooks, trees_held}
use Rattle.table_ledger.specs.Ready.{IsStoredIn}
use Rattle.table_ledger.specs.LedgerState.{AreBooks, seen_of}
use Rattle.table_ledger.specs.ReadyBooks.{LeavesTheLast, settled_on, book_of_stored}
use Rattle.table_ledger.specs.declared.summary.Summary.{Summary}
use Rattle.book_restarts.specs.FileBooks.{GoesOn, HoldsBook, HoldsHistory, LeavesBook, LeavesTrees}
use Rattle.book_restarts.specs.Laws.{SessionsFollowBook, SessionsFollowHistory}

-- A ledger on a store, after work on the book at which it was opened.
module _ (naming : Naming) (view : View) (may_leave : Trees → Type 0) (must_reopen : Bool)
    (summary : Summary) (last : LeavesTheLast view may_leave)
  where
    abbrev seen : Seen
    seen = seen_of naming view may_leave must_reopen summary

    -- it may have each book that a stop may leave
    pub stands : (flag : Bool) → must_reopen ≡ flag → IsClean view
        → AreBooks naming view may_leave must_reopen summary → (trees : Trees) → may_leave trees
        → (book : Book) → IsStoredIn naming book trees → may_have flag seen book
    stands true closed clean books trees left book kept = (trees, left, sym (book_of_stored kept))
    stands false is_open clean books trees left book kept =
        settled_on naming view may_leave must_reopen summary last clean books is_open book
        (trees, left, sym (book_of_stored kept))

    -- so a stop leaves what the work made
    pub visit_leaves : (before : Seen) (given : Naming) (Made : Transition) (start : Book)
        → IsOpenAt given start before → IsTransition before seen Made → IsClean view
        → (trees : Trees) → may_leave trees → LeavesTrees given Made start trees
    visit_leaves before given Made start opened work clean trees left =
        let books = work.books clean opened.books in
        let some = books.left clean trees left in
        let come = opened_leads opened work clean some.book
        (stands must_reopen refl clean books trees left some.book some.kept) in
        record {
          events = come.events;
          is = must_reopen;
          made = come.made;
          kept = subst (λ book. IsStoredIn given book trees) come.leads
              (subst (λ name. IsStoredIn name some.book trees) (work.naming ∙ opened.naming)
              some.kept);
        }

-- from trees to files
pub held_leaves : (naming : Naming) (Made : Transition) (start : Book) (image : Image)
    (held : HoldsBooks image) → LeavesTrees naming Made start (trees_held held)
    → LeavesBook naming Made start image
held_leaves naming Made start image held left = record {
  events = left.events;
  is = left.is;
  made = left.made;
  held = ∣ (held, left.kept) ∣₁;
}

-- files that hold each book that they held go on with no event
pub still_held : (naming : Naming) (first left : Image)
    → ((book : Book) → HoldsBook naming book first → HoldsBook naming book left)
    → GoesOn naming NoEvent first left
still_held naming first left each = record {
  book = λ book held. ∣ (record {
    events = [];
    is = false;
    made = record { none = refl; same = refl };
    held = each book held;
  }) ∣₁;
  history = λ history held. ∣ (record {
    events = [];
    is = false;
    made = record { none = refl; same = refl };
    left = record { answered = held.answered; held = each (book_after history) held.held };
  }) ∣₁;
  calls = none_answered naming;
}

-- what is left of each book is left of each history
pub book_goes_on : (naming : Naming) (Made : Transition) (first left : Image)
    → MakesAnswered naming Made
    → ((book : Book) → HoldsBook naming book first → ∥ LeavesBook naming Made book left ∥₁)
    → GoesOn naming Made first left
book_goes_on naming Made first left answers each = record {
  book = each;
  history = λ history held.
      ∥∥₁_map (each (book_after history) held.held) λ found. record {
        events = found.events;
        is = found.is;
        made = found.made;
        left = record {
          answered = history_goes_on naming found.events history
              (answers (book_after history) false found.events found.is found.made) held.answered;
          held = subst (λ book. HoldsBook naming book left)
              (sym (after_all-append found.events history new_book)) found.held;
        };
      };
  calls = answers;
}

-- sessions, one after another, of each of which it is known that it adds something
sessions_add : (work : ℕ → Transition) (start : Book) (At : ℕ → List Event → Type 0) (sessions : ℕ)
    → At 0 []
    → ((session : ℕ) → session < sessions → (early : List Event) → At session early
    → ∥ Adds (work session) start (At (suc session)) early ∥₁)
    → ∥ AllAdd work start sessions (At sessions) ∥₁
sessions_add =
    in_turn (λ A. ∥ A ∥₁) (λ A one. ∣ one ∣₁) (λ A B one so. ∥∥₁_elim one ∥∥₁_prop so)

-- all sessions on the files of a history
pub sessions_follow : (work : ℕ → Naming → Transition) (files : ℕ → Image)
    → SessionsFollowHistory work files
sessions_follow work files naming start sessions held each =
    ∥∥₁_map (sessions_add (λ session. work session naming) (book_after start)
    (λ session events. HoldsHistory naming (events ++ start) (files session)) sessions held
    (λ session below early at.
    ∥∥₁_map ((each session below).history (early ++ start) at) λ one. record {
      late = one.events;
      is = one.is;
      made = subst (λ book. work session naming false book one.events one.is)
          (after_all-append early start new_book) one.made;
      left = subst (λ history. HoldsHistory naming history (files (suc session)))
          (sym (append_assoc one.events early start)) one.left;
    })) λ all. record { events = all.events; made = all.made; left = all.left }

-- and on those of any book
pub sessions_follow_book : (work : ℕ → Naming → Transition) (files : ℕ → Image)
    → SessionsFollowBook work files
sessions_follow_book work files naming start sessions held each =
    ∥∥₁_map (sessions_add (λ session. work session naming) start
    (λ session events.
    AreMadeOf naming start events × HoldsBook naming (after_all events start) (files session))
    sessions (tt, held)
    (λ session below early at.
    ∥∥₁_map ((each session below).book (after_all early start) at.1) λ one. record {
      late = one.events;
      is = one.is;
      made = one.made;
      left = (
        made_more naming one.events early start
            ((each session below).calls (after_all early start) false one.events one.is one.made)
            at.0,
        subst (λ book. HoldsBook naming book (files (suc session)))
            (sym (after_all-append one.events early start)) one.held,
      );
    })) λ all.
    record { events = all.events; made = all.made; answered = all.left.0; left = all.left.1 }
