-- What an audit says of files.
use Rattle.std.specs.Prelude.{◌≡◌, IfErr, IfOk, IsOk, Result}
use Rattle.sqlite_disk.specs.declared.Disk.{Ghosts}
use Rattle.sqlite_wal.specs.Recovery.{Image}
use Rattle.book_audit.specs.OfBook.{AreOfBook}
use Rattle.book_audit.specs.declared.audited.Audited.{Audited}
use Rattle.book_audit.specs.declared.audited.Audited.TheVariants.{Sound}
use Rattle.book_audit.specs.declared.audited.Counts.{Counts}
use Rattle.book_core.specs.Transition.{NoEvent}
use Rattle.book_trees.specs.LedgerFiles.{HoldsBooks, trees_held}
use Rattle.book_trees.specs.StoreView.{ListsBooks}
use Rattle.book_restarts.specs.FileBooks.{file_names}
use Rattle.book_sessions.specs.Causes.{HoldsOurBooks, WhyNotAudited}
use Rattle.book_sessions.specs.Sessions.{AreAsFound, AreInHand, FilesGoOn, KeepRows, MayFollow}
use Rattle.book_sessions.specs.declared.ended.Ended.{Ended}
use Rattle.named_books.specs.declared.repository.RepositoryFault.{RepositoryFault}

-- The files hold a book that can be read back, and these are its counts.
abbrev pub HoldCounted : Counts → Image → Type 0
HoldCounted counts image =
    ∥ ((held : HoldsBooks image) × AreOfBook file_names (trees_held held) counts) ∥₁

-- Files of which an audit says that they are sound hold such books as a ledger leaves: what is said
-- of each later session on those is said of these.
abbrev pub SoundAreOurs : Type 0
SoundAreOurs =
    (counts : Counts) (image : Image) → HoldCounted counts image
    → ∥ HoldsOurBooks file_names image ∥₁

-- Whatever trees of books files held, they hold them, also where no book can be read back from
-- them.
abbrev pub HoldSameTrees : Image → Image → Type 0
HoldSameTrees found image =
    (held : HoldsBooks found)
    → ∥ ((left : HoldsBooks image) × (trees_held left ≡ trees_held held)) ∥₁

-- Files that were found so were looked through and audited, or they were not.
pub record AreAudited {D : Type 0} (g : Ghosts D) (found : Image)
    (result : Result Audited RepositoryFault) (ended : Ended D) : Type 0 where
  -- Whatever may be found of them next holds the history that they held. The trees of books stay as
  -- they were, also where no book can be read back from them; and so do their rows, also where no
  -- memory was left to see that they are those of books.
  pub history : FilesGoOn g NoEvent found ended
  pub unopened : AreAsFound g found ended
  pub same : (image : Image) → MayFollow g ended image → HoldSameTrees found image
  pub rows : KeepRows g found ended
  -- Files that are called sound hold a book, whoever wrote them, and the counts are its own. Any
  -- other answer too is given of no files but those that list the tables of books, and with the
  -- files in hand; and that there are no books is told only of files that hold none of this form.
  pub book : IfOk result (λ audited. (counts : Counts) → audited ≡ Sound counts → (image : Image)
      → MayFollow g ended image → HoldCounted counts found)
  pub listed : IfOk result (λ audited. (image : Image) → MayFollow g ended image
      → ∥ ListsBooks found ∥₁)
  pub in_hand : IsOk result → AreInHand ended
  pub refused : IfErr result (WhyNotAudited g found ended)
