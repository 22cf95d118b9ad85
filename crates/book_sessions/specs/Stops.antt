-- What is left of a store of books, and of the files in which it was closed.
use Rattle.std.specs.Prelude.{◌≡◌, ◌≢◌, IsTrue, Result}
use Rattle.sqlite_disk.specs.declared.Disk.{Ghosts}
use Rattle.sqlite_trees.specs.Tree.{Trees}
use Rattle.sqlite_trees.specs.View.{View, IsClean}
use Rattle.sqlite_wal.specs.Recovery.{Image}
use Rattle.book_model.specs.Words.{Book}
use Rattle.book_core.specs.Transition.{Transition}
use Rattle.book_trees.specs.Closing.{MayBeFound}
use Rattle.book_trees.specs.declared.closing.Closed.{Closed}
use Rattle.book_trees.specs.declared.closing.LogLeft.TheVariants.{Unmoved}
use Rattle.book_trees.specs.LedgerFiles.{HoldsFile, rows_held}
use Rattle.tree_tables.specs.States.{State, HasCleanDisk}
use Rattle.table_ledger.specs.Commits.{IsAtRest}
use Rattle.table_ledger.specs.Ready.{IsStoredIn}
use Rattle.book_restarts.specs.FileBooks.{LeavesTrees, StandsAt, file_names}
use Rattle.book_sessions.specs.NewBooks.{IsEmpty, LeavesNew}

-- all trees that a stop may leave of a store are so, if its disk was honest
abbrev pub StopLeaves : State → (Trees → Type 0) → Type 0
StopLeaves left So = HasCleanDisk left → (trees : Trees) → left.may_leave trees → So trees

-- all that may be found of closed files is so, if they are known to hold books
abbrev pub CloseLeaves : {D : Type 0} (g : Ghosts D) → Closed D → (Image → Type 0) → Type 0
CloseLeaves g closed So =
    IsTrue closed.is_kept → (image : Image) → MayBeFound g closed.files image → So image

-- they are a sound file of some tables, whose rows are so, whether or not they are known to hold
-- books
abbrev pub CloseLeavesRows : {D : Type 0} (g : Ghosts D) → Closed D → (Trees → Type 0) → Type 0
CloseLeavesRows g closed So =
    (image : Image) → MayBeFound g closed.files image
    → ∥ ((file : HoldsFile image) × So (rows_held file)) ∥₁

-- the pages of the log of closed files were to be moved into the other file
abbrev pub CloseTriesToMoveLog : {D : Type 0} → Closed D → Type 0
CloseTriesToMoveLog closed = closed.log ≢ Unmoved

-- a stop leaves what such work made of the book at which a store stood
abbrev pub StopGoesOn : Transition → View → State → Type 0
StopGoesOn Made found left =
    (book : Book) → StandsAt file_names book found
    → StopLeaves left (LeavesTrees file_names Made book)

-- a stop leaves the book at which a store stood
abbrev pub StopKeepsBook : View → State → Type 0
StopKeepsBook found left =
    (book : Book) → StandsAt file_names book found → StopLeaves left (IsStoredIn file_names book)

-- a stop leaves the trees of a store that was at rest, whatever they hold
abbrev pub StopKeepsTrees : View → State → Type 0
StopKeepsTrees found left =
    (IsClean found → IsAtRest found) → StopLeaves left (λ trees. trees ≡ found.trees)

-- Of a store that had no row a stop leaves new books; or, where they were not made, its tables as
-- they were.
abbrev pub StopLeavesNew : {A F : Type 0} → View → Result A F → State → Type 0
StopLeavesNew found made left =
    (IsClean found → IsEmpty found) → StopLeaves left (LeavesNew file_names found made)
