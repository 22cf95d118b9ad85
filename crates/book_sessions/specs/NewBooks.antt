-- What is left where new books are made.
use Rattle.std.specs.Prelude.{◌≡◌, ◌⊎◌, ◌<◌, ◌^◌, ℕ, IsTrue, List, None, Some, Result, Ok, Err, []}
use Rattle.std.specs.Prelude.{IfErr, IfOk, IsOk}
use Rattle.sqlite_disk.specs.declared.Disk.{Ghosts}
use Rattle.sqlite_trees.specs.Tree.{Trees}
use Rattle.sqlite_trees.specs.View.{View, IsClean}
use Rattle.sqlite_wal.specs.Recovery.{Image}
use Rattle.book_core.specs.Transition.{NoEvent}
use Rattle.book_model.specs.Words.{Event, Naming, book_after, new_book}
use Rattle.book_sessions.specs.Causes.{HaveBookRow, WhyNotContinued, WhyNotMade}
use Rattle.book_sessions.specs.Sessions.{AreAsFound, AreOpened, FilesGoOn, KeepRows, MayFollow}
use Rattle.book_sessions.specs.declared.ended.Ended.{Ended}
use Rattle.book_sessions.specs.declared.ended.Ended.TheVariants.{Closed, Refused}
use Rattle.book_trees.specs.Closing.{MayBeFound}
use Rattle.book_trees.specs.LedgerFiles.{HoldsEmptyBooks, HoldsNothing}
use Rattle.book_trees.specs.Refusals.{IsBegun, MayLeave}
use Rattle.book_restarts.specs.FileBooks.{HoldsHistory, file_names}
use Rattle.named_books.specs.declared.repository.RepositoryFault.{RepositoryFault}
use Rattle.table_ledger.specs.Commits.{IsAtRest}
use Rattle.table_ledger.specs.Ready.{IsStoredIn}
use Rattle.tree_tables.specs.Steps.{HasNoRows}

-- a store is open between two transactions, and its trees have no row
pub record IsEmpty (view : View) : Type 0 where
  pub rest : IsAtRest view
  pub none : HasNoRows view.trees

-- All tables are as they were, whatever the trees say of their form.
abbrev pub HaveSameTables : Trees → Trees → Type 0
HaveSameTables old new = (tree : ℕ) → tree < 2 ^ 32 → new tree ≡ old tree

-- Trees in which new books were made hold these. Where they were not made, the tables are as they
-- were, or hold new books.
abbrev pub LeavesNew : {A F : Type 0} → Naming → View → Result A F → Trees → Type 0
LeavesNew naming old (Ok made) trees = IsStoredIn naming new_book trees
LeavesNew naming old (Err fault) trees =
    (IsClean old × HaveSameTables old.trees trees) ⊎ IsStoredIn naming new_book trees

-- What may be found where new books were made of files that held nothing: the books of no history;
-- or, where they were not made, nothing, or all tables with no row, or these books.
abbrev pub MakesBooks : {A F : Type 0} → Naming → Result A F → Image → Type 0
MakesBooks naming (Ok made) image = HoldsHistory naming [] image
MakesBooks naming (Err fault) image = ∥ (IsBegun image ⊎ HoldsHistory naming [] image) ∥₁

-- What the next call may find of the files that this one had: where they were not opened, as they
-- are, with their log.
abbrev pub MayBeMade : {D : Type 0} (g : Ghosts D) → Ended D → Image → Type 0
MayBeMade g (Closed closed) image = IsTrue closed.is_kept × MayBeFound g closed.files image
MayBeMade g (Refused (Some files)) image = MayLeave g files image
MayBeMade g (Refused None) image = ⊥

-- Whatever the next call may find of files in which new books were to be made: these books, if that
-- was answered; or what such a making may leave.
abbrev pub NewBooksMade : {D A F : Type 0} (g : Ghosts D) → Result A F → Ended D → Type 0
NewBooksMade g made ended =
    (image : Image) → MayBeMade g ended image → MakesBooks file_names made image

-- New books were made in files that were found so, or they were not.
pub record AreMade {A D : Type 0} (g : Ghosts D) (found : Image) (result : Result A RepositoryFault)
    (ended : Ended D) : Type 0 where
  -- Whatever may be found next of files that held nothing are the books of no history; or, where
  -- they were not made, what the next call goes on with.
  pub made : HoldsNothing found → NewBooksMade g result ended
  -- In files that hold something no books are made, and nothing is written.
  pub new : IfOk result (λ done. (image : Image) → MayBeMade g ended image → ∥ HoldsNothing found ∥₁)
  pub unopened : (¬ HoldsNothing found) → AreAsFound g found ended
  -- That they were made is answered only of files that were opened, and that something is there is
  -- told only where it is.
  pub in_hand : IsOk result → AreOpened ended
  pub refused : IfErr result (WhyNotMade g found ended)

-- Books in files that were found so were continued, where a stop left them while they were made, or
-- they were not.
pub record AreContinued {A D : Type 0} (g : Ghosts D) (found : Image)
    (result : Result A RepositoryFault) (ended : Ended D) : Type 0 where
  -- Whatever may be found of them next holds the history that they held. Where the row of a book is
  -- there all rows stay, also where no book can be read back from them, or no memory was left to
  -- see that they are those of books; and files that are not opened are left as they were, whatever
  -- they hold.
  pub history : FilesGoOn g NoEvent found ended
  pub rows : HaveBookRow found → KeepRows g found ended
  pub unopened : AreAsFound g found ended
  -- That all went well is answered of new books alone; and where no table had a row yet, new books
  -- are made, as ever.
  pub none : (image : Image) → MayFollow g ended image → (history : List Event)
      → HoldsHistory file_names history found
      → IfOk result (λ done. ∥ book_after history ≡ new_book ∥₁)
  pub made : HoldsEmptyBooks found → NewBooksMade g result ended
  -- It is answered only of files that were opened; and that books are there is told only of files
  -- that hold none of this form, or books that are not new.
  pub in_hand : IsOk result → AreOpened ended
  pub refused : IfErr result (WhyNotContinued g found ended)
