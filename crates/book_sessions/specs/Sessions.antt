-- What may be found of the files of books after a session.
use Rattle.std.specs.Prelude.{◌≡◌, ◌≢◌, IfSome, IsSome, IsTrue, Option, None, Some, Result, Ok, Err}
use Rattle.std.specs.Prelude.{[], ⊤}
use Rattle.sqlite_disk.specs.declared.Disk.{Ghosts}
use Rattle.sqlite_disk.specs.declared.files.Files.{Files}
use Rattle.sqlite_wal.specs.Reads.{AreClean}
use Rattle.sqlite_wal.specs.Recovery.{Image}
use Rattle.book_model.specs.Words.{Book}
use Rattle.book_restarts.specs.FileBooks.{GoesOn, HoldsBook, LeavesTrees, file_names}
use Rattle.book_core.specs.Transition.{Transition}
use Rattle.book_trees.specs.Closing.{MayBeFound}
use Rattle.book_trees.specs.LedgerFiles.{HoldsBooks, HoldsFile, rows_held, trees_held}
use Rattle.book_trees.specs.Refusals.{IsAsFound, MayLeave}
use Rattle.book_trees.specs.declared.closing.LogLeft.TheVariants.{Short, Unmoved}
use Rattle.book_sessions.specs.declared.ended.Ended.{Ended}
use Rattle.book_sessions.specs.declared.ended.Ended.TheVariants.{Closed, Refused}

-- What the next session may find of the files that this one had, where they are known to hold
-- books.
abbrev pub MayFollow : {D : Type 0} (g : Ghosts D) → Ended D → Image → Type 0
MayFollow g (Closed closed) image = IsTrue closed.is_kept × MayBeFound g closed.files image
MayFollow g (Refused (Some files)) image = MayBeFound g files image
MayFollow g (Refused None) image = ⊥

-- Whatever the next session may find of the files goes on from what this one found, with what was
-- made in it.
abbrev pub FilesGoOn : {D : Type 0} (g : Ghosts D) → Transition → Image → Ended D → Type 0
FilesGoOn g Made found ended =
    (image : Image) → MayFollow g ended image → GoesOn file_names Made found image

-- Files that were closed are a sound file of some tables, whether or not they are seen to be those
-- of books: whatever may be found of it has the rows of the book that this session found, gone on
-- with what was made in it.
abbrev pub RowsGoOn : {D : Type 0} (g : Ghosts D) → Transition → Image → Ended D → Type 0
RowsGoOn g Made found (Closed closed) =
    (image : Image) → MayBeFound g closed.files image
    → (book : Book) → HoldsBook file_names book found
    → ∥ ((file : HoldsFile image) × LeavesTrees file_names Made book (rows_held file)) ∥₁
RowsGoOn g Made found (Refused files) = ⊤

-- Whatever rows the tables of books in the files had, files that were closed are a sound file that
-- has them and lists those tables, whether or not they are seen to be those of books, and also
-- where no book can be read back from them.
abbrev pub KeepRows : {D : Type 0} (g : Ghosts D) → Image → Ended D → Type 0
KeepRows g found (Closed closed) =
    (image : Image) → MayBeFound g closed.files image → (held : HoldsBooks found)
    → ∥ ((file : HoldsFile image) × (rows_held file ≡ trees_held held)) ∥₁
KeepRows g found (Refused files) = ⊤

-- Files that were not opened are as they were found, or stand for the same pages, whatever they
-- hold.
abbrev pub AreAsFound : {D : Type 0} (g : Ghosts D) → Image → Ended D → Type 0
AreAsFound g found (Closed closed) = ⊤
AreAsFound g found (Refused files) =
    IfSome files (λ files. (left : Image) → MayLeave g files left → IsAsFound found left)

-- Files that were opened held this, where no disk lied: so no others were written to.
abbrev pub OpenOnly : {D : Type 0} (g : Ghosts D) → Type 0 → Ended D → Type 0
OpenOnly g Held (Closed closed) = AreClean g closed.files.log closed.files.db → ∥ Held ∥₁
OpenOnly g Held (Refused files) = ⊤

-- The files are in hand. Where none are, nothing can be said of them.
abbrev pub AreInHand : {D : Type 0} → Ended D → Type 0
AreInHand (Closed closed) = ⊤
AreInHand (Refused files) = IsSome files

-- the files were opened, and closed again
abbrev pub AreOpened : {D : Type 0} → Ended D → Type 0
AreOpened (Closed closed) = ⊤
AreOpened (Refused files) = ⊥

-- Of an opening that gave a store, the files are given back closed; of one that did not, what it gave
-- back itself. So no files are in hand only where the opening opened none.
abbrev pub GivesBack : {S F D : Type 0} → Result S (F × Option (Files D)) → Ended D → Type 0
GivesBack (Ok store) ended = AreOpened ended
GivesBack (Err refusal) ended = ended ≡ Refused refusal.1

-- those that are in hand
abbrev pub files_in_hand : {D : Type 0} → Ended D → Option (Files D)
files_in_hand (Closed closed) = Some closed.files
files_in_hand (Refused files) = files

-- The pages of the log of files that were opened were to be moved into the other file.
abbrev pub TriesToMoveLog : {D : Type 0} → Ended D → Type 0
TriesToMoveLog (Closed closed) = closed.log ≢ Unmoved
TriesToMoveLog (Refused files) = ⊤

-- They were not to be moved: what the log holds is left there.
abbrev pub KeepsLog : {D : Type 0} → Ended D → Type 0
KeepsLog (Closed closed) = closed.log ≡ Unmoved
KeepsLog (Refused files) = ⊤

-- What may be found of the file of books that were closed, where their log was short, and no log is
-- there any more.
abbrev pub IsFileAlone : {D : Type 0} (g : Ghosts D) → Ended D → Image → Type 0
IsFileAlone g (Closed closed) image =
    IsTrue closed.is_kept × (closed.log ≡ Short) × AreClean g closed.files.log closed.files.db
    × (image.log ≡ []) × g.may_leave closed.files.db image.db
IsFileAlone g (Refused files) image = ⊥

-- Where the log is left short, the file alone, without any log, goes on from it.
abbrev pub FileAloneGoesOn : {D : Type 0} (g : Ghosts D) → Transition → Image → Ended D → Type 0
FileAloneGoesOn g Made found ended =
    (image : Image) → IsFileAlone g ended image → GoesOn file_names Made found image

-- The files are in hand, and no lie of a disk was taken as true.
abbrev pub AreHonest : {D : Type 0} (g : Ghosts D) → Option (Files D) → Type 0
AreHonest g (Some files) = AreClean g files.log files.db
AreHonest g None = ⊥
