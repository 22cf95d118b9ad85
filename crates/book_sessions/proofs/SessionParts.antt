-- What a session leaves of files, part by part.
use Rattle.std.proofs.Common.{◌≡◌, ◌∙◌, IsTrue, List, ℕ, sym, ap, subst, inl, inr, Option}
use Rattle.std.proofs.Common.{None, Some, Result, Ok, Err, IfSome}
use Rattle.sqlite_pool.specs.StoredLaws.{carried}
use Rattle.sqlite_store.specs.FileStore.{recovers}
use Rattle.sqlite_store.specs.declared.catalog.Wanted.{Wanted}
use Rattle.book_model.specs.Words.{Book, Naming}
use Rattle.book_core.specs.Words.{MakesAnswered, Transition, NoEvent}
use Rattle.book_core.proofs.FollowLemmas.{none_answered}
use Rattle.book_trees.specs.Closing.{IsWithoutLog, LeavesLog, LeavesRows, MayBeFound}
use Rattle.book_trees.specs.LedgerFiles.{HoldsFile, HoldsTables, page_size, rows_held, without_log}
use Rattle.book_trees.specs.Refusals.{IsAsFound}
use Rattle.book_trees.proofs.UnusedLogs.{short_alone}
use Rattle.table_ledger.specs.Commits.{IsAtRest}
use Rattle.book_restarts.specs.FileBooks.{HoldsBook, LeavesBook, GoesOn, StandsAt, done_by}
use Rattle.book_restarts.proofs.SessionLemmas.{book_goes_on, still_held}
use Rattle.book_sessions.proofs.Words.{∥∥₁_elim, ∥∥₁_map, ∥∥₁_prop, Ghosts, Files, state, view}
use Rattle.book_sessions.proofs.Words.{IsReady, FileStore, clean_of, no_doubt, Trees, IsClean}
use Rattle.book_sessions.proofs.Words.{AreClean, Image, Closed, HoldsBooks, trees_held}
use Rattle.book_sessions.proofs.Words.{books_schema, IsStoredIn, AreLeftAsFound, MayFollow}
use Rattle.book_sessions.specs.Sessions.{IsFileAlone}
use Rattle.book_sessions.specs.Stops.{CloseLeaves, CloseLeavesRows, CloseTriesToMoveLog}
use Rattle.book_sessions.specs.declared.ended.Ended.TheVariants.{Refused}
use Rattle.book_sessions.specs.declared.ended.Ended.TheVariants as ended

-- whatever may be found, the files are honest
pub found_clean : {D : Type 0} (g : Ghosts D) (files : Files D) (image : Image)
    → MayBeFound g files image → AreClean g files.log files.db
found_clean g files image (inl may) = may.0
found_clean g files image (inr alone) = alone.clean

-- what a stop may leave of a store, its closed files hold
pub close_leaves : {D : Type 0} (g : Ghosts D) (store : FileStore D g) (closed : Closed D)
    (So : Trees → Type 0)
    → (AreClean g closed.files.log closed.files.db → IsTrue (state store).is_clean)
    → CloseLeaves g closed
    (λ image. ∥ ((held : HoldsBooks image) × recovers store (trees_held held)) ∥₁)
    → (IsClean (view store) → (trees : Trees) → recovers store trees → So trees)
    → CloseLeaves g closed (λ image. ∥ ((held : HoldsBooks image) × So (trees_held held)) ∥₁)
close_leaves g store closed So honest left each = λ kept image may.
    let clean = no_doubt _ (honest (found_clean g closed.files image may)) in
    ∥∥₁_map (left kept image may) λ found. (found.0, each clean (trees_held found.0) found.1)

-- so do their rows, whether or not they are seen to be those of books
pub close_rows : {D : Type 0} (g : Ghosts D) (store : FileStore D g) (closed : Closed D)
    (So : Trees → Type 0)
    → (AreClean g closed.files.log closed.files.db → IsTrue (state store).is_clean)
    → LeavesRows g store closed.files
    → (IsClean (view store) → (trees : Trees) → recovers store trees → So trees)
    → CloseLeavesRows g closed So
close_rows g store closed So honest left each = λ image may.
    let clean = no_doubt _ (honest (found_clean g closed.files image may)) in
    ∥∥₁_map (left image may) λ found. (found.0, each clean (rows_held found.0) found.1)

-- pages of a log that were to be moved are not said to have been left
pub to_be_moved : {D : Type 0} (g : Ghosts D) (store : FileStore D g) (closed : Closed D)
    → LeavesLog g store closed.files closed.log → CloseTriesToMoveLog closed
to_be_moved g store closed left = λ is. subst (LeavesLog g store closed.files) is left

-- so what is found of the file alone may be found
pub alone_follows : {D : Type 0} (g : Ghosts D) (store : FileStore D g) (closed : Closed D)
    → LeavesLog g store closed.files closed.log → (image : Image)
    → IsFileAlone g (ended.Closed closed) image → MayFollow g (ended.Closed closed) image
alone_follows g store closed left image alone = (
  alone.0,
  inr (record {
    clean = alone.2;
    short = subst (LeavesLog g store closed.files) alone.1 left alone.2;
    gone = alone.3;
    file = alone.4;
  }),
)

-- a store that was opened is between two transactions
pub opened_rests : {D : Type 0} {g : Ghosts D} (store : FileStore D g) → IsReady store
    → IsClean (view store) → IsAtRest (view store)
opened_rests store ready clean = record {
  is_open = ready.is_open clean;
  sound = ready.sound clean;
  settled = ready.clean;
}

-- and where it was opened on books it stands at the book
pub opened_stands : {D : Type 0} {g : Ghosts D} (names : Naming) (book : Book) (first : Image)
    (store : FileStore D g) → IsReady store
    → (IsTrue (state store).is_clean → (held : HoldsBooks first) → (view store).trees ≡ trees_held held)
    → (held : HoldsBooks first) → IsStoredIn names book (trees_held held)
    → StandsAt names book (view store)
opened_stands names book first store ready found held kept = λ clean. record {
  rest = opened_rests store ready clean;
  kept = subst (IsStoredIn names book) (sym (found (clean_of _ clean) held)) kept;
}

-- so is what is left of a book, where the files held one
pub left_of_book : {D : Type 0} {g : Ghosts D} {Left : Type 0} (names : Naming) (book : Book)
    (first : Image) (store : FileStore D g) → IsReady store
    → (IsTrue (state store).is_clean → (held : HoldsBooks first) → (view store).trees ≡ trees_held held)
    → HoldsBook names book first → (StandsAt names book (view store) → ∥ Left ∥₁) → ∥ Left ∥₁
left_of_book names book first store ready found held left =
    ∥∥₁_elim held ∥∥₁_prop λ kept.
    left (opened_stands names book first store ready found kept.0 kept.1)

-- rows that are left as the store had them are those that the files held
pub rows_as_found : {D : Type 0} {g : Ghosts D} (first image : Image) (store : FileStore D g)
    → IsReady store
    → (IsTrue (state store).is_clean → (held : HoldsBooks first) → (view store).trees ≡ trees_held held)
    → IsTrue (state store).is_clean → (held : HoldsBooks first)
    → ((IsClean (view store) → IsAtRest (view store))
    → ∥ ((file : HoldsFile image) × (rows_held file ≡ (view store).trees)) ∥₁)
    → ∥ ((file : HoldsFile image) × (rows_held file ≡ trees_held held)) ∥₁
rows_as_found first image store ready found clean held same =
    ∥∥₁_map (same (opened_rests store ready)) λ left. (left.0, left.1 ∙ found clean held)

-- what is done in a visit is answered, where its work is
pub done_answered : {A F : Type 0} (work : A → Transition) (names : Naming)
    → ((answer : A) → MakesAnswered names (work answer)) → (result : Result A F)
    → MakesAnswered names (done_by work result)
done_answered work names answers (Ok answer) = answers answer
done_answered work names answers (Err fault) = none_answered names

-- what an opened store leaves of each book, the files leave of it, and so of each history
pub session_goes_on : {D : Type 0} {g : Ghosts D} (names : Naming) (Made : Transition)
    (first image : Image) (store : FileStore D g) → IsReady store
    → (IsTrue (state store).is_clean → (held : HoldsBooks first) → (view store).trees ≡ trees_held held)
    → MakesAnswered names Made
    → ((book : Book) → StandsAt names book (view store) → ∥ LeavesBook names Made book image ∥₁)
    → GoesOn names Made first image
session_goes_on names Made first image store ready found answers each =
    book_goes_on names Made first image answers λ book held.
    left_of_book names book first store ready found held (each book)

-- without a log that held nothing, files hold the same
tables_alone : {wanted : List Wanted} {D : Type 0} (g : Ghosts D) (Kept : Trees → Type 0)
    (files : Files D) (image : Image) → IsWithoutLog g files image
    → ∥ ((held : HoldsTables wanted (record { log = g.seen files.log; db = image.db }))
    × Kept (trees_held held)) ∥₁
    → ∥ ((held : HoldsTables wanted image) × Kept (trees_held held)) ∥₁
tables_alone {wanted} g Kept files image alone held =
    let whole : Image = record { log = g.seen files.log; db = image.db } in
    let same : without_log whole ≡ image =
    ap (λ (log : List ℕ). record { log = log; db = image.db }) (sym alone.gone) in
    subst (λ (image : Image). ∥ ((held : HoldsTables wanted image) × Kept (trees_held held)) ∥₁) same
    (∥∥₁_map held λ found.
    let kept = short_alone whole alone.short found.0 in
    (kept.0, subst Kept (sym kept.1) found.1))

-- files that stand for the same hold the same tables
pub held_still : {wanted : List Wanted} (Kept : Trees → Type 0) (first left : Image)
    → IsAsFound first left → ((held : HoldsTables wanted first) × Kept (trees_held held))
    → (held : HoldsTables wanted left) × Kept (trees_held held)
held_still {wanted} Kept first left (inl same) held =
    subst (λ (image : Image). (held : HoldsTables wanted image) × Kept (trees_held held)) (sym same) held
held_still {wanted} Kept first left (inr same) held = (
  record {
    pages = held.0.pages;
    found = carried page_size first left same held.0.pages held.0.found;
    file = held.0.file;
  },
  held.1,
)

-- files that were refused hold what they held, also without a log that held nothing
pub refused_tables : {wanted : List Wanted} {D : Type 0} (g : Ghosts D) (Kept : Trees → Type 0)
    (first : Image) (files : Files D) → AreLeftAsFound g first files → (image : Image)
    → MayBeFound g files image → ∥ ((held : HoldsTables wanted first) × Kept (trees_held held)) ∥₁
    → ∥ ((held : HoldsTables wanted image) × Kept (trees_held held)) ∥₁
refused_tables {wanted} g Kept first files same image (inl may) held =
    ∥∥₁_map held (held_still {wanted = wanted} Kept first image (same.kept image may))
refused_tables {wanted} g Kept first files same image (inr alone) held =
    let whole : Image = record { log = g.seen files.log; db = image.db } in
    tables_alone {wanted = wanted} g Kept files image alone
    (∥∥₁_map held (held_still {wanted = wanted} Kept first whole
    (same.kept whole (alone.clean, (same.log, alone.file)))))

-- so they go on as they were
pub refused_goes_on : {D : Type 0} (g : Ghosts D) (names : Naming) (first : Image)
    (files : Option (Files D)) → IfSome files (AreLeftAsFound g first) → (image : Image)
    → MayFollow g (Refused files) image → GoesOn names NoEvent first image
refused_goes_on g names first None same image never = absurd never
refused_goes_on g names first (Some files) same image may =
    still_held names first image (λ book held.
    refused_tables {wanted = books_schema} g (IsStoredIn names book) first files same image may held)

-- so do files that an opened store leaves as they were
pub held_goes_on : {D : Type 0} {g : Ghosts D} (names : Naming) (first image : Image)
    (store : FileStore D g) → IsReady store
    → (IsTrue (state store).is_clean → (held : HoldsBooks first) → (view store).trees ≡ trees_held held)
    → ((book : Book) → StandsAt names book (view store) → HoldsBook names book image)
    → GoesOn names NoEvent first image
held_goes_on names first image store ready found each =
    still_held names first image (λ book held.
    ∥∥₁_elim held ∥∥₁_prop λ kept.
    each book (opened_stands names book first store ready found kept.0 kept.1))
