-- What is told of a session, once its files are dropped.
use Rattle.std.specs.Prelude.{◌≡◌, ◌≢◌, if◌then◌else◌, IfSome, Result, Ok, Err, ⊤}
use Rattle.sqlite_disk.specs.declared.Disk.{Ghosts}
use Rattle.sqlite_disk.specs.declared.files.Files.{Files}
use Rattle.book_trees.specs.declared.closing.LogLeft.{LogLeft}
use Rattle.book_trees.specs.declared.closing.LogLeft.TheVariants.{Short, Unmoved}
use Rattle.book_files.specs.Logs.{LooksShort}
use Rattle.book_sessions.specs.declared.ended.Ended.{Ended}
use Rattle.book_sessions.specs.declared.ended.Ended.TheVariants.{Closed, Refused}
use Rattle.named_books.specs.declared.repository.RepositoryFault.{RepositoryFault}

-- The answer of a session is told as it is; or, where no memory was left to see that the closed
-- files hold books, this fault.
abbrev pub seen_answer : {A D : Type 0} → RepositoryFault → Result A RepositoryFault → Ended D
    → Result A RepositoryFault
seen_answer fault answer (Closed closed) = if closed.is_kept then answer else Err fault
seen_answer fault answer (Refused files) = answer

-- a log whose pages were to be moved into the file is too short to hold any
abbrev pub IsMoved : LogLeft → Type 0
IsMoved left = left ≢ Unmoved → left ≡ Short

-- so is the log of files that were closed
abbrev pub HasMovedLog : {D : Type 0} → Ended D → Type 0
HasMovedLog (Closed closed) = IsMoved closed.log
HasMovedLog (Refused files) = ⊤

-- a log whose pages were not to be moved looks too short to hold any
abbrev pub UnmovedLooksShort : {D : Type 0} → Ghosts D → LogLeft → Files D → Type 0
UnmovedLooksShort g Unmoved files = LooksShort g files
UnmovedLooksShort g left files = ⊤

-- so does that of files which were left as they are: they were closed, or not opened
abbrev pub LeftLooksShort : {D : Type 0} → Ghosts D → Ended D → Type 0
LeftLooksShort g (Closed closed) = UnmovedLooksShort g closed.log closed.files
LeftLooksShort g (Refused files) = IfSome files (LooksShort g)
