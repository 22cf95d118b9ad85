-- What a copy of a file, or of the two files of books, holds.
use Rattle.std.specs.Prelude.{◌≡◌, ◌<◌, ℕ, List, length, slice_index, IsTrue}
use Rattle.std.specs.declared.io.ErrorKind.{ErrorKind}
use Rattle.std.specs.declared.io.ErrorKind.TheVariants.{OutOfMemory}
use Rattle.sqlite_disk.specs.Disk.{Only}
use Rattle.sqlite_disk.specs.declared.Disk.{Ghosts}
use Rattle.sqlite_disk.specs.declared.files.Files.{Files}
use Rattle.sqlite_wal.specs.Reads.{AreClean}
use Rattle.book_trees.specs.Forms.{HoldsThisForm}
use Rattle.book_trees.specs.LedgerFiles.{image_of}
use Rattle.book_trees.specs.Looks.{look_opening}
use Rattle.book_trees.specs.Refusals.{IsRefusedWithout}
use Rattle.book_trees.specs.declared.faults.OpenFault.{OpenFault}
use Rattle.book_trees.specs.declared.faults.OpenFault.TheVariants.{Memory, Store}
use Rattle.book_trees.specs.declared.integrity.LookFault.{LookFault}

-- so many bytes at the front of a file are those of another, and it is as long as it is to be
pub record BeginsAs (done size : ℕ) (original copy : List ℕ) : Type 0 where
  pub length : length copy ≡ size
  pub each : (at : ℕ) → at < done → slice_index copy at ≡ slice_index original at

-- A file was read, and nothing else: it holds what it held, and a crash leaves nothing new.
pub record IsOnlyRead {D : Type 0} (g : Ghosts D) (old new : D) : Type 0 where
  pub seen : g.seen new ≡ g.seen old
  pub clean : IsTrue (g.is_clean new) → IsTrue (g.is_clean old)
  pub crash : (left : List ℕ) → g.may_leave new left → g.may_leave old left

-- The other file holds what the first returned, where that was no lie, and a crash leaves nothing
-- else of it.
pub record IsCopyOf {A B : Type 0} (one : Ghosts A) (two : Ghosts B) (original : A) (copy : B) : Type 0
  where
    pub seen : IsTrue (one.is_clean original) → two.seen copy ≡ one.seen original
    pub left : Only (two.seen copy) (two.may_leave copy)

-- the two files were read, and nothing else
pub record AreOnlyRead {D : Type 0} (g : Ghosts D) (old new : Files D) : Type 0 where
  pub log : IsOnlyRead g old.log new.log
  pub db : IsOnlyRead g old.db new.db

-- the two of a copy hold what the two of the original returned
pub record AreCopiesOf {A B : Type 0} (one : Ghosts A) (two : Ghosts B) (original : Files A)
    (copy : Files B) : Type 0 where
  pub log : IsCopyOf one two original.log copy.log
  pub db : IsCopyOf one two original.db copy.db

-- the fault that the failure of a copy stands for
abbrev pub copy_fault_for : ErrorKind → OpenFault
copy_fault_for OutOfMemory = Memory
copy_fault_for _ = Store

-- Files that were as the first were read, and a copy of them was begun in others, which are given
-- back: where no disk lied, this fault is told only where the first hold no books of this form.
abbrev pub IsCopyRefusedWithout : {A B : Type 0} (one : Ghosts A) (two : Ghosts B) → Files A
    → Files A → LookFault → Files B → Type 0
IsCopyRefusedWithout one two first original fault copy =
    AreClean one original.log original.db
    → IsRefusedWithout two (HoldsThisForm (image_of one first)) (look_opening fault) copy
