-- What is so after a visit of books.
use Rattle.std.specs.Prelude.{IfErr, IfOk, IsOk, Result}
use Rattle.sqlite_disk.specs.declared.Disk.{Ghosts}
use Rattle.sqlite_wal.specs.Recovery.{Image}
use Rattle.book_core.specs.Transition.{Transition}
use Rattle.book_restarts.specs.FileBooks.{done_by}
use Rattle.book_sessions.specs.Causes.{MightBeVisited, WhyNotVisited}
use Rattle.book_sessions.specs.Sessions.{AreAsFound, AreOpened, FileAloneGoesOn, FilesGoOn, KeepRows}
use Rattle.book_sessions.specs.Sessions.{RowsGoOn}
use Rattle.book_sessions.specs.declared.ended.Ended.{Ended}
use Rattle.named_books.specs.declared.repository.RepositoryFault.{RepositoryFault}

-- Books in files that were found so were visited, with this answer and this work, or they were not.
pub record AreVisited {A D : Type 0} (g : Ghosts D) (work : A → Transition) (found : Image)
    (answer : Result A RepositoryFault) (ended : Ended D) : Type 0 where
  -- Whatever may be found of them next holds the books of the history before it, gone on with what
  -- the visit made; their rows do so also where no memory was left to see that they are those of
  -- books; and the file alone, without any log, holds all of that where the log is left short.
  pub history : FilesGoOn g (done_by work answer) found ended
  pub rows : RowsGoOn g (done_by work answer) found ended
  pub alone : FileAloneGoesOn g (done_by work answer) found ended
  -- What is not visited has the rows that it had, also where no book can be read back from them;
  -- and files that are not opened are left as they were, whatever they hold.
  pub same : IfErr answer (λ fault. KeepRows g found ended)
  pub unopened : AreAsFound g found ended
  -- An answer is given only of files that were opened, and had the row of their book, and did not
  -- say that they are of a newer form. That there are no books is told only of files that hold none
  -- of this form, or not their row.
  pub in_hand : IsOk answer → AreOpened ended
  pub there : IfOk answer (λ made. MightBeVisited g found ended)
  pub refused : IfErr answer (WhyNotVisited g found ended)
