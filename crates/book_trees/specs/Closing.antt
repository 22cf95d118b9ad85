-- What may be found of the two files after they were closed.
use Rattle.std.specs.Prelude.{◌≡◌, ◌⊎◌, ◌<◌, List, [], None, length, IsTrue, ⊤}
use Rattle.sqlite_disk.specs.declared.Disk.{Ghosts}
use Rattle.sqlite_disk.specs.declared.files.Files.{Files}
use Rattle.sqlite_store.specs.FileStore as store
use Rattle.sqlite_store.specs.declared.catalog.Wanted.{Wanted}
use Rattle.sqlite_store.specs.declared.store.FileStore.{FileStore}
use Rattle.sqlite_wal.specs.Reads.{AreClean}
use Rattle.sqlite_wal.specs.Recovery.{Image}
use Rattle.book_trees.specs.LedgerFiles.{page_size, rows_held, shortest_log, HoldsFile}
use Rattle.book_trees.specs.Refusals.{MayLeave}
use Rattle.book_trees.specs.declared.closing.Closed.{Closed}
use Rattle.book_trees.specs.declared.closing.LogLeft.{LogLeft}
use Rattle.book_trees.specs.declared.closing.LogLeft.TheVariants.{Short, Emptied, Kept, Unmoved}

-- a store has the pages of books and these tables, neither of which was changed in its transaction
pub record HasSchema (wanted : List Wanted) {D : Type 0} {g : Ghosts D} (it : FileStore D g) : Type 0
  where
    pub size : (store.state it).page_size ≡ page_size
    pub schema : store.schema_of it ≡ wanted
    pub unaltered : it.saved ≡ None

module _ {D : Type 0} (g : Ghosts D) where
  -- the log, which was too short for anything, was deleted: the other file is as a crash may leave it
  pub record IsWithoutLog (files : Files D) (image : Image) : Type 0 where
    pub clean : AreClean g files.log files.db
    pub short : length (g.seen files.log) < shortest_log
    pub gone : image.log ≡ []
    pub file : g.may_leave files.db image.db

  -- as a crash may leave the two, or with the log deleted
  abbrev pub MayBeFound : Files D → Image → Type 0
  MayBeFound files image = MayLeave g files image ⊎ IsWithoutLog files image

  -- Whatever tables the files list, and whether or not they are seen to hold books: they are a sound
  -- file, whose rows are some that an open might have found before.
  abbrev pub LeavesRows : FileStore D g → Files D → Type 0
  LeavesRows old files =
      (image : Image) → MayBeFound files image
      → ∥ ((file : HoldsFile image) × store.recovers old (rows_held file)) ∥₁

  -- the store that was closed last, whose log was then asked for its length
  pub record IsClosed (end : FileStore D g) (files : Files D) : Type 0 where
    pub log : D
    pub back : (log, files.db) ≡ store.files end

  -- What a close leaves of the log: it is too short to hold anything; or it holds no page; or its
  -- pages could not be moved. That they were not to be moved is not answered.
  abbrev pub LeavesLog : FileStore D g → Files D → LogLeft → Type 0
  LeavesLog old files Short =
      AreClean g files.log files.db → length (g.seen files.log) < shortest_log
  LeavesLog old files Emptied = IsTrue (store.view old).is_open
      → ∥ ((end : FileStore D g) × IsClosed end files × (store.log_frames end ≡ 0)) ∥₁
  LeavesLog old files (Kept error) = ⊤
  LeavesLog old files Unmoved = ⊥

  -- closed files whose log is said to be short have a short log
  abbrev pub IsShort : Closed D → Type 0
  IsShort closed = closed.log ≡ Short → AreClean g closed.files.log closed.files.db
      → length (g.seen closed.files.log) < shortest_log
