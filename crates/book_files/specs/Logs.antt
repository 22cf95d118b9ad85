-- What a log is seen to be, before a command leaves it without a word, or gives it another name.
use Rattle.std.specs.Prelude.{◌<◌, ℕ, List, length}
use Rattle.sqlite_disk.specs.declared.Disk.{Ghosts}
use Rattle.sqlite_disk.specs.declared.files.Files.{Files}
use Rattle.sqlite_wal.specs.Reads.{IsClean}
use Rattle.book_trees.specs.LedgerFiles.{shortest_log, IsUnused}

-- The log of files, as it is once it was asked for its length: it is too short to hold anything,
-- where no disk lied, and a stop leaves nothing of it but what it might have left before.
pub record LooksShort {D : Type 0} (g : Ghosts D) (files : Files D) : Type 0 where
  pub log : D
  pub short : IsClean g log → length (g.seen log) < shortest_log
  pub crash : (left : List ℕ) → g.may_leave log left → g.may_leave files.log left

-- A log is of no use to books: where no disk lied, recovery takes nothing of it.
pub record IsOfNoUse {D : Type 0} (g : Ghosts D) (log : D) : Type 0 where
  pub unused : IsClean g log → IsUnused (g.seen log)
