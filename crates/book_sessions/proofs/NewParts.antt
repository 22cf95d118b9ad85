-- What is left where new books are made.
use Rattle.std.proofs.Common.{◌≡◌, ◌∙◌, ℕ, Bool, [], ◌⊎◌, inl, inr, sym, subst, true≢false, IsTrue}
use Rattle.std.proofs.Common.{Option, None, Some, Result, Ok, Err, ap, arith, IfSome}
use Rattle.sqlite_store.proofs.ListingLemmas.{past_version}
use Rattle.sqlite_trees.specs.Objects.{with_version}
use Rattle.sqlite_trees.specs.View.{View}
use Rattle.book_model.proofs.Lemmas.{none_in}
use Rattle.book_model.specs.Words.{Book, Naming, new_book}
use Rattle.book_core.specs.Words.{IsOpenAt}
use Rattle.book_trees.specs.LedgerFiles.{AreEmptyTables, HoldsEmptyBooks}
use Rattle.book_trees.specs.Refusals.{IsAsFound, IsBegun, MayLeave}
use Rattle.book_restarts.specs.FileBooks.{HoldsHistory}
use Rattle.book_sessions.specs.NewBooks.{HaveSameTables, IsEmpty, LeavesNew, MakesBooks, MayBeMade}
use Rattle.book_sessions.proofs.Words.{∥∥₁_map, Files, Ghosts, state, view, IsReady, FileStore}
use Rattle.book_sessions.proofs.Words.{Trees, IsClean, Image, clean_of, HoldsBooks, trees_held}
use Rattle.book_sessions.proofs.Words.{books_schema, AreLeftAsFound, IsStoredIn}
use Rattle.book_sessions.specs.declared.ended.Ended.TheVariants.{Refused}
use Rattle.book_sessions.proofs.SessionParts.{held_still, opened_rests}
use Rattle.table_model.proofs.EventLemmas.{tables_follow}
use Rattle.table_model.specs.Words.{new_tables, tables_of}
use Rattle.table_model.proofs.CallsLemmas.{calls_stay}
use Rattle.table_model.proofs.ReadableLemmas.{calls_read}
use Rattle.tree_tables.specs.Holds.{Holds}
use Rattle.table_ledger.specs.LedgerState.{seen_of}
use Rattle.table_ledger.specs.ReadyBooks.{LeavesTheLast, settled_on, book_of_stored}
use Rattle.table_ledger.specs.declared.summary.Summary.{Summary}

-- files in which new books were made hold trees that do
abbrev pub LeavesNewBooks : {A F : Type 0} → Naming → View → Result A F → Image → Type 0
LeavesNewBooks naming old result image =
    ∥ ((held : HoldsBooks image) × LeavesNew naming old result (trees_held held)) ∥₁

-- the tables of new books are those of the new book
pub new_follow : (naming : Naming) → new_tables ≡ tables_of naming new_book
new_follow naming =
    tables_follow naming [] tt (λ bytes there. absurd (true≢false (sym there ∙ none_in bytes)))

-- so trees that hold them hold it
pub holds_new : (naming : Naming) (trees : Trees) → Holds trees new_tables
    → IsStoredIn naming new_book trees
holds_new naming trees holds = record {
  readable = calls_read.books naming new_book (calls_stay.start naming);
  journaled = calls_read.journals naming new_book (calls_stay.start naming);
  holds = subst (Holds trees) (new_follow naming) holds;
}

-- an open ledger leaves the book at which it is open
pub open_leaves : (naming : Naming) (view : View) (may_leave : Trees → Type 0) (must_reopen : Bool)
    (summary : Summary) → LeavesTheLast view may_leave → (start : Book)
    → IsOpenAt naming start (seen_of naming view may_leave must_reopen summary)
    → (trees : Trees) → may_leave trees → IsStoredIn naming start trees
open_leaves naming view may_leave must_reopen summary last start opened trees left =
    let some = opened.books.left opened.honest trees left in
    let same = settled_on naming view may_leave must_reopen summary last opened.honest opened.books
    opened.is_open some.book (trees, left, sym (book_of_stored some.kept)) in
    subst (λ book. IsStoredIn naming book trees) (same ∙ opened.book) some.kept

-- each table is as it was under another form
pub said_tables : (trees : Trees) (form : ℕ) → HaveSameTables trees (with_version trees form)
said_tables trees form tree low = past_version tree low trees form

-- a store whose tables were just made is empty
pub made_empty : {D : Type 0} {g : Ghosts D} (store : FileStore D g) → IsReady store
    → (IsTrue (state store).is_clean → AreEmptyTables (view store).committed)
    → IsClean (view store) → IsEmpty (view store)
made_empty store ready empty clean = record {
  rest = opened_rests store ready clean;
  none = record {
    empty = λ tree low. ap (λ (trees : Trees). trees tree) ready.clean
        ∙ empty (clean_of _ clean) tree (omega (arith, low));
  };
}

-- files that hold new books hold those of no history
holds_none : (names : Naming) (image : Image) (held : HoldsBooks image)
    → IsStoredIn names new_book (trees_held held) → HoldsHistory names [] image
holds_none names image held kept = record { answered = tt; held = ∣ (held, kept) ∣₁ }

-- files of new books, from what their trees hold
pub new_books_made : {A F : Type 0} (names : Naming) (old : View)
    → (IsClean old → AreEmptyTables old.trees) → (result : Result A F) (image : Image)
    → LeavesNewBooks names old result image → MakesBooks names result image
new_books_made names old empty (Ok made) image left = record {
  answered = tt;
  held = ∥∥₁_map left λ found. (found.0, found.1);
}
new_books_made names old empty (Err fault) image left =
    ∥∥₁_map left λ found. elim (found.1) [
      | inl same ↦ inl (inr ∣ (record {
        held = found.0;
        empty = λ tree low. same.1 tree low ∙ empty same.0 tree low;
      }) ∣₁)
      | inr kept ↦ inr (holds_none names image found.0 kept)
    ]

-- a store whose tables were just made, and its files
pub made_at : {D : Type 0} {g : Ghosts D} {A F : Type 0} (names : Naming) (store : FileStore D g)
    → IsReady store → (IsTrue (state store).is_clean → AreEmptyTables (view store).committed)
    → (result : Result A F) (image : Image)
    → ((IsClean (view store) → IsEmpty (view store)) → LeavesNewBooks names (view store) result image)
    → MakesBooks names result image
made_at names store ready empty result image left =
    new_books_made names (view store) (λ clean tree low.
    ap (λ (trees : Trees). trees tree) ready.clean ∙ empty (clean_of _ clean) tree low) result image
    (left (made_empty store ready empty))

-- and of files that were refused
pub refused_begun : {D : Type 0} (g : Ghosts D) (names : Naming) (files : Option (Files D))
    → IfSome files (λ files. (left : Image) → MayLeave g files left → IsBegun left)
    → (image : Image) → MayBeMade g (Refused files) image
    → ∥ (IsBegun image ⊎ HoldsHistory names [] image) ∥₁
refused_begun g names None begun image never = absurd never
refused_begun g names (Some files) begun image may = ∣ inl (begun image may) ∣₁

-- Where a stop left all tables with no row, a store that is opened on them has none.
module _ {D : Type 0} {g : Ghosts D} (first : Image) (store : FileStore D g) (ready : IsReady store)
    (found : IsTrue (state store).is_clean → (held : HoldsBooks first)
    → (view store).trees ≡ trees_held held)
    (begun : HoldsEmptyBooks first)
  where
    opened_tables : IsClean (view store) → AreEmptyTables (view store).trees
    opened_tables clean tree low =
        ap (λ (trees : Trees). trees tree) (found (clean_of _ clean) begun.held)
        ∙ begun.empty tree low

    pub opened_empty : IsClean (view store) → IsEmpty (view store)
    opened_empty clean = record {
      rest = opened_rests store ready clean;
      none = record { empty = λ tree low. opened_tables clean tree (omega (arith, low)) };
    }

    -- so new books are made there, as ever
    pub resumed_at : {A F : Type 0} (names : Naming) (result : Result A F) (image : Image)
        → ((IsClean (view store) → IsEmpty (view store))
        → LeavesNewBooks names (view store) result image)
        → MakesBooks names result image
    resumed_at names result image left =
        new_books_made names (view store) opened_tables result image (left opened_empty)

-- files that stand for the same hold the same
begun_as_found : (first left : Image) → IsAsFound first left → HoldsEmptyBooks first
    → HoldsEmptyBooks left
begun_as_found first left same begun =
    let still = held_still {wanted = books_schema} AreEmptyTables first left same
    (begun.held, begun.empty) in
    record { held = still.0; empty = still.1 }

-- so files that were refused are still begun
pub refused_still : {D : Type 0} (g : Ghosts D) (names : Naming) (first : Image)
    (files : Option (Files D)) → IfSome files (AreLeftAsFound g first) → HoldsEmptyBooks first
    → (image : Image) → MayBeMade g (Refused files) image
    → ∥ (IsBegun image ⊎ HoldsHistory names [] image) ∥₁
refused_still g names first None same begun image never = absurd never
refused_still g names first (Some files) same begun image may =
    ∣ inl (inr ∣ begun_as_found first image (same.kept image may) begun ∣₁) ∣₁
