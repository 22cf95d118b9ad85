-- Why a session has no answer, by what the files held and by what is in hand of them.
use Rattle.std.specs.Prelude.{◌≡◌, ◌⊎◌, Bool, true, false, None, Some, Result, Ok, Err, ⊤}
use Rattle.sqlite_disk.specs.declared.Disk.{Ghosts}
use Rattle.sqlite_wal.specs.Reads.{AreClean}
use Rattle.sqlite_wal.specs.Recovery.{Image}
use Rattle.book_model.specs.Words.{Book, Naming, new_book}
use Rattle.book_model.specs.declared.fault.LedgerFault.TheVariants as ledger
use Rattle.book_trees.specs.OldForms.{HoldsOldForm}
use Rattle.book_trees.specs.Forms.{HoldNoNewer, HoldsThisForm}
use Rattle.book_trees.specs.LedgerFiles.{HoldsBooks, HoldsOldBooks, HoldsNothing}
use Rattle.book_trees.specs.LedgerFiles.{old_trees, trees_held}
use Rattle.book_trees.specs.Schema.{books_schema}
use Rattle.table_model.specs.TablesOf.{tables_of}
use Rattle.tree_tables.specs.Holds.{has_book}
use Rattle.book_restarts.specs.FileBooks.{HoldsBook, file_names}
use Rattle.book_sessions.specs.Sessions.{AreHonest, MayFollow, files_in_hand}
use Rattle.book_sessions.specs.Unused.{are_unused}
use Rattle.book_sessions.specs.declared.ended.Ended.{Ended}
use Rattle.book_sessions.specs.declared.ended.Ended.TheVariants.{Closed, Refused}
use Rattle.named_books.specs.declared.repository.RepositoryFault.{RepositoryFault}
use Rattle.named_books.specs.declared.repository.RepositoryFault.TheVariants.{Io, Exists, Busy, Ledger}
use Rattle.named_books.specs.declared.repository.Upgraded.{Upgraded}
use Rattle.named_books.specs.declared.repository.Upgraded.TheVariants.{Already, To}

-- the files hold a book that can be read back
pub record HoldsOurBooks (naming : Naming) (image : Image) : Type 0 where
  pub book : Book
  pub held : HoldsBook naming book image

-- whatever books the files hold, the row of the book is there
abbrev pub HaveBookRow : Image → Type 0
HaveBookRow found = (held : HoldsBooks found) → has_book (trees_held held) ≡ true

-- so it is, and they do not say that they are of a newer form
abbrev pub MayBeVisited : Image → Type 0
MayBeVisited found = HaveBookRow found × HoldNoNewer books_schema found

-- where no disk lied, the files that are in hand were found with the row of their book, and did not
-- say that they are of a newer form
abbrev pub MightBeVisited : {D : Type 0} (g : Ghosts D) → Image → Ended D → Type 0
MightBeVisited g found ended = AreHonest g (files_in_hand ended) → MayBeVisited found

-- whatever books the files hold, the row is there; and they hold no new books
abbrev pub HaveUsedBook : Image → Type 0
HaveUsedBook found = HaveBookRow found × (¬ HoldsBook file_names new_book found)

-- whatever books the files hold, the row of the book is not there
abbrev pub HaveNoBookRow : Image → Type 0
HaveNoBookRow found = (held : HoldsBooks found) → has_book (trees_held held) ≡ false

-- whatever books of an older form the files hold, the row of the book is not there
abbrev pub HaveNoOldRow : Image → Type 0
HaveNoOldRow found = (held : HoldsOldBooks found) → has_book (old_trees held) ≡ false

-- no files are in hand: memory ran out, another program has them, or they are out of reach
abbrev pub IsWithoutFiles : RepositoryFault → Type 0
IsWithoutFiles fault = (fault ≡ Ledger ledger.Memory) ⊎ ((fault ≡ Busy) ⊎ (fault ≡ Io))

-- Files are in hand, and a fault has its cause in them: that there are no books of this form, or
-- that books are there. One of memory or of the store may be told of any files. No other fault
-- comes then.
abbrev pub HasFaultCause : Type 0 → Type 0 → RepositoryFault → Type 0
HasFaultCause Absent There (Ledger ledger.NotBooks) = Absent
HasFaultCause Absent There (Ledger ledger.OldForm) = Absent
HasFaultCause Absent There (Ledger ledger.NewForm) = Absent
HasFaultCause Absent There (Ledger ledger.Memory) = ⊤
HasFaultCause Absent There (Ledger ledger.Store) = ⊤
HasFaultCause Absent There Exists = There
HasFaultCause Absent There _ = ⊥

-- Books were to be continued, and this says whether anything was submitted to them: they are new
-- where it was answered that all went well; and that books are there is answered only where they
-- are not.
abbrev pub IsResumedBy : {A : Type 0} → Bool → Result A RepositoryFault → Type 0
IsResumedBy unused (Ok made) = unused ≡ true
IsResumedBy unused (Err fault) = HasFaultCause ⊥ (unused ≡ false) fault

-- the same of this book, which a store held
abbrev pub IsResumed : {A : Type 0} → Book → Result A RepositoryFault → Type 0
IsResumed book result = IsResumedBy (are_unused (tables_of file_names book)) result

-- Why a session has no answer, by what is in hand of its files, where no disk lied: what is said of
-- a fault where they were not opened, and where they were.
abbrev pub HasNoAnswerFor : {D : Type 0} (g : Ghosts D) → (RepositoryFault → Type 0)
    → (RepositoryFault → Type 0) → RepositoryFault → Ended D → Type 0
HasNoAnswerFor g Unopened Opened fault (Refused None) = IsWithoutFiles fault
HasNoAnswerFor g Unopened Opened fault (Refused (Some files)) =
    AreClean g files.log files.db → Unopened fault
HasNoAnswerFor g Unopened Opened fault (Closed closed) =
    AreClean g closed.files.log closed.files.db → Opened fault

-- Why a session had no answer, by what the files held when it found them, and by what is in hand of
-- them. Memory may run out, and a store may fail, of any files.
module _ {D : Type 0} (g : Ghosts D) (found : Image) (ended : Ended D) where
  -- why books were not visited: the files hold none of this form, or not their row
  abbrev pub WhyNotVisited : RepositoryFault → Type 0
  WhyNotVisited fault =
      HasNoAnswerFor g (HasFaultCause (¬ HoldsThisForm found) ⊥)
      (HasFaultCause (HaveNoBookRow found) ⊥) fault ended

  -- why new books were not made: the files held something
  abbrev pub WhyNotMade : RepositoryFault → Type 0
  WhyNotMade fault =
      HasNoAnswerFor g (HasFaultCause (¬ HoldsNothing found) ⊥) (HasFaultCause ⊥ ⊥) fault ended

  -- why new books were not continued: the files hold none of this form, or a book that is not new
  abbrev pub WhyNotContinued : RepositoryFault → Type 0
  WhyNotContinued fault =
      HasNoAnswerFor g (HasFaultCause ⊥ (¬ HoldsThisForm found))
      (HasFaultCause ⊥ (HaveUsedBook found)) fault ended

  -- Why books were not looked through: the files hold none of this form. Of files that were looked
  -- through this says nothing.
  abbrev pub WhyNotAudited : RepositoryFault → Type 0
  WhyNotAudited fault =
      HasNoAnswerFor g (HasFaultCause (¬ HoldsThisForm found) ⊥) (λ other. ⊤) fault ended

  -- why books were not brought to this form: the files hold none of an older form, or not their
  -- row
  abbrev pub WhyNotUpgraded : RepositoryFault → Type 0
  WhyNotUpgraded fault =
      HasNoAnswerFor g (HasFaultCause (¬ HoldsOldForm found) ⊥)
      (HasFaultCause (HaveNoOldRow found) ⊥) fault ended

-- What is answered of files that hold books of this form: that they are of it; or that they are of
-- a newer one; or that memory ran out, or that the store failed. No such files are opened.
abbrev pub IsToldOfThis : {D : Type 0} (g : Ghosts D) → Result Upgraded RepositoryFault → Ended D
    → Type 0
IsToldOfThis g (Ok Already) ended = ⊤
IsToldOfThis g (Ok (To form)) ended = (image : Image) → MayFollow g ended image → ⊥
IsToldOfThis g (Err fault) ended =
    HasNoAnswerFor g (λ other. (other ≡ Ledger ledger.NewForm) ⊎ HasFaultCause ⊥ ⊥ other)
    (λ other. ⊥) fault ended
