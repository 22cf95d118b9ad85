-- What is so of a copy of books, and of the files that were copied.
use Rattle.std.specs.Prelude.{◌≡◌, Option, None, Some}
use Rattle.sqlite_disk.specs.declared.Disk.{Ghosts}
use Rattle.sqlite_disk.specs.declared.files.Files.{Files}
use Rattle.sqlite_wal.specs.Reads.{AreClean}
use Rattle.sqlite_wal.specs.Recovery.{Image}
use Rattle.book_core.specs.Transition.{NoEvent, Transition}
use Rattle.book_restarts.specs.FileBooks.{GoesOn, file_names}
use Rattle.book_trees.specs.Closing.{MayBeFound}
use Rattle.book_trees.specs.Forms.{HoldsThisForm}
use Rattle.book_trees.specs.LedgerFiles.{HoldsBooks}
use Rattle.book_trees.specs.Refusals.{MayLeave}
use Rattle.book_sessions.specs.Causes.{HasFaultCause, HaveNoBookRow, IsWithoutFiles, MightBeVisited}
use Rattle.book_sessions.specs.Sessions.{FileAloneGoesOn, FilesGoOn, OpenOnly}
use Rattle.book_sessions.specs.declared.ended.Ended.{Ended}
use Rattle.book_sessions.specs.declared.ended.Ended.TheVariants.{Closed, Refused}
use Rattle.book_files.specs.declared.copied.CopyFault.{CopyFault}
use Rattle.book_files.specs.declared.copied.CopyFault.TheVariants as copies

-- The files of a copy hold what was copied, where no disk lied.
pub record IsCopyOf {D : Type 0} (g : Ghosts D) (Made : Transition) (found : Image) (copy : Ended D)
    : Type 0 where
  -- Whatever may be found of them goes on from what was copied, with what was made in it; and so
  -- does the file alone, without any log, where the log is left short.
  pub history : FilesGoOn g Made found copy
  pub alone : FileAloneGoesOn g Made found copy
  -- There is no copy of files that hold no books, or not their row, or that say that they are of a
  -- newer form.
  pub there : MightBeVisited g found copy
  pub books : OpenOnly g (HoldsBooks found) copy

-- Files that were found so were read, and nothing else: a stop leaves what was found; and the
-- history that they held they hold, also where their log is short and is deleted.
pub record WereOnlyRead {D : Type 0} (g : Ghosts D) (found : Image) (files : Files D) : Type 0 where
  pub same : (image : Image) → MayLeave g files image → image ≡ found
  pub history : (image : Image) → MayBeFound g files image → GoesOn file_names NoEvent found image

-- a fault of a copy has its cause: that its pages are wrong, or that of another fault
abbrev pub HasCopyCause : Type 0 → Type 0 → CopyFault → Type 0
HasCopyCause Wrong Absent copies.Pages = Wrong
HasCopyCause Wrong Absent (copies.Refused fault) = HasFaultCause Absent ⊥ fault

-- one of the two pairs of files is not in hand
abbrev pub IsCopyWithoutFiles : CopyFault → Type 0
IsCopyWithoutFiles copies.Pages = ⊥
IsCopyWithoutFiles (copies.Refused fault) = IsWithoutFiles fault

-- Why there is no copy of files that were found so, by what is in hand of them and of the copy,
-- where no disk lied: the copy was not looked through; or it was, and its books were not opened.
abbrev pub WhyNotCopied : {A B : Type 0} (one : Ghosts A) (two : Ghosts B) → Image
    → Option (Files A) → Ended B → CopyFault → Type 0
WhyNotCopied one two found None copy fault = IsCopyWithoutFiles fault
WhyNotCopied one two found (Some files) (Refused None) fault = IsCopyWithoutFiles fault
WhyNotCopied one two found (Some files) (Refused (Some copy)) fault =
    AreClean one files.log files.db → AreClean two copy.log copy.db
    → HasCopyCause (¬ HoldsThisForm found) (¬ HoldsThisForm found) fault
WhyNotCopied one two found (Some files) (Closed closed) fault =
    AreClean one files.log files.db → AreClean two closed.files.log closed.files.db
    → HasCopyCause ⊥ (HaveNoBookRow found) fault
