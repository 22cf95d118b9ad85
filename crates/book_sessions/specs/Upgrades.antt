-- Books of older forms that were to be brought to this one.
use Rattle.std.specs.Prelude.{◌≡◌, ◌⊎◌, IfErr, IfOk, IsOk, List, Result, Ok, Err, ⊤}
use Rattle.sqlite_disk.specs.declared.Disk.{Ghosts}
use Rattle.sqlite_store.specs.Listing.{listed_from}
use Rattle.sqlite_trees.specs.Objects.{catalog_tree}
use Rattle.sqlite_trees.specs.Tree.{Trees}
use Rattle.sqlite_trees.specs.View.{View, IsClean}
use Rattle.sqlite_wal.specs.Recovery.{Image}
use Rattle.book_model.specs.Words.{Book, Event, Naming, book_after, IsMadeByCalls}
use Rattle.book_core.specs.Transition.{NoEvent}
use Rattle.table_model.specs.Words.{Tables}
use Rattle.tree_tables.specs.Forms.{this_form}
use Rattle.book_trees.specs.Closing.{MayBeFound}
use Rattle.book_trees.specs.OldForms.{HoldsOldForm, ListMore, OldNoNewer}
use Rattle.book_trees.specs.LedgerFiles.{HoldsBooks, HoldsFile, HoldsOldBooks, old_trees}
use Rattle.book_trees.specs.LedgerFiles.{rows_held}
use Rattle.book_trees.specs.Schema.{old_schema}
use Rattle.book_trees.specs.StoreView.{ListsBooks}
use Rattle.book_trees.specs.declared.schema.OlderForm.{OlderForm}
use Rattle.book_trees.specs.declared.schema.OlderForm.TheVariants.{First, Second}
use Rattle.book_restarts.specs.FileBooks.{HoldsBook, HoldsHistory, RestsAt, file_names}
use Rattle.book_sessions.specs.Causes.{IsToldOfThis, WhyNotUpgraded}
use Rattle.book_sessions.specs.Sessions.{AreAsFound, AreInHand, FilesGoOn, MayFollow}
use Rattle.book_sessions.specs.declared.ended.Ended.{Ended}
use Rattle.book_sessions.specs.declared.ended.Ended.TheVariants.{Closed, Refused}
use Rattle.table_ledger.specs.Commits.{IsAtRest}
use Rattle.table_ledger.specs.OldForms.{IsStoredOld, uncounted, with_details}
use Rattle.table_ledger.specs.Ready.{IsStoredIn}
use Rattle.named_books.specs.declared.repository.RepositoryFault.{RepositoryFault}
use Rattle.named_books.specs.declared.repository.Upgraded.{Upgraded}
use Rattle.named_books.specs.declared.repository.Upgraded.TheVariants.{Already, To}

-- what older forms hold of the tables: the first has no details
abbrev pub written_in : OlderForm → Tables → Tables
written_in First = uncounted
written_in Second = λ tables. tables

-- and what is told of the tables by their rows and lines: the details of the first form
abbrev pub filled : OlderForm → Tables → Tables
filled First = with_details
filled Second = λ tables. tables

-- trees hold the book, which can be read back, in an older form
abbrev pub IsStoredInOld : OlderForm → Naming → Book → Trees → Type 0
IsStoredInOld form = IsStoredOld (written_in form)

-- The files hold this book, which calls made, in an older form.
abbrev pub HoldsOldBook : Naming → Book → Image → Type 0
HoldsOldBook naming book image =
    ∥ ((held : HoldsOldBooks image) × IsStoredInOld held.form naming book (old_trees held)) ∥₁

-- They hold the book of this history, which calls made, in an older form.
pub record HoldsOldHistory (naming : Naming) (history : List Event) (image : Image) : Type 0 where
  pub answered : IsMadeByCalls naming history
  pub held : HoldsOldBook naming (book_after history) image

-- Trees list what books of an older form list, and hold a book so.
abbrev pub IsLeftInOld : Naming → Book → Trees → Type 0
IsLeftInOld naming book trees =
    (form : OlderForm) × (trees catalog_tree ≡ listed_from 0 (old_schema form))
    × IsStoredInOld form naming book trees

-- a store is open between two transactions, and its trees are left so
pub record RestsAtOld (naming : Naming) (book : Book) (view : View) : Type 0 where
  pub rest : IsAtRest view
  pub kept : IsLeftInOld naming book view.trees

-- the same, where it is honest
abbrev pub StandsAtOld : Naming → Book → View → Type 0
StandsAtOld naming book view = IsClean view → RestsAtOld naming book view

-- Trees list something else, and hold a book in the present form.
abbrev pub IsBroughtOver : Naming → Book → Trees → Type 0
IsBroughtOver naming book trees = ListMore trees × IsStoredIn naming book trees

-- What the one commit may leave of a store that was at rest: its book, brought over.
abbrev pub MayBringOver : Naming → View → Trees → Type 0
MayBringOver naming old trees =
    (book : Book) → RestsAtOld naming book old → IsBroughtOver naming book trees

-- a store that was at rest is so again, and shows its book, brought over
abbrev pub RestsBroughtOver : Naming → View → View → Type 0
RestsBroughtOver naming old new =
    (book : Book) → RestsAtOld naming book old → ListMore new.trees × RestsAt naming book new

-- Trees that held a book in an older form hold it in this one; or, where it was not brought over,
-- in one of the two.
abbrev pub LeavesUpgraded : {A F : Type 0} → Naming → Book → Result A F → Trees → Type 0
LeavesUpgraded naming book (Ok done) trees = IsBroughtOver naming book trees
LeavesUpgraded naming book (Err fault) trees =
    IsLeftInOld naming book trees ⊎ IsBroughtOver naming book trees

-- so do files
abbrev pub HoldsUpgraded : {A F : Type 0} → Naming → Book → Result A F → Image → Type 0
HoldsUpgraded naming book (Ok done) image = HoldsBook naming book image
HoldsUpgraded naming book (Err fault) image =
    ∥ (HoldsOldBook naming book image ⊎ HoldsBook naming book image) ∥₁

-- what is answered where books were brought over, or were not
abbrev pub upgrade_answer : Result (Unit {0}) RepositoryFault → Result Upgraded RepositoryFault
upgrade_answer (Ok done) = Ok (To this_form)
upgrade_answer (Err fault) = Err fault

-- the form that books were brought to, where that is told, is this one
abbrev pub TellsThisForm : Upgraded → Type 0
TellsThisForm (To form) = form ≡ this_form
TellsThisForm Already = ⊤

-- What is told stands in the files: they listed the tables of this form; or they held books of an
-- older one, and did not say that they are of a newer form.
abbrev pub HoldsWhatIsTold : Image → Upgraded → Type 0
HoldsWhatIsTold found Already = ∥ ListsBooks found ∥₁
HoldsWhatIsTold found (To form) = ∥ HoldsOldBooks found ∥₁ × OldNoNewer found

-- What may be found of files that held the books of a history in an older form, by what was
-- answered: the same books in this form; or, where they were not brought over, the old books or the
-- new ones. That they are of this form already is answered of others.
abbrev pub BringsOver : Naming → List Event → Result Upgraded RepositoryFault → Image → Type 0
BringsOver naming history (Ok (To form)) image = HoldsHistory naming history image
BringsOver naming history (Ok Already) image = ⊥
BringsOver naming history (Err fault) image =
    ∥ (HoldsOldHistory naming history image ⊎ HoldsHistory naming history image) ∥₁

-- Whatever the next session may find of files that held the books of a history in an older form:
-- books of this history, in this form; or, where they were not brought over, in one of the two.
abbrev pub FilesBroughtOver : {D : Type 0} (g : Ghosts D) → Image → Result Upgraded RepositoryFault
    → Ended D → Type 0
FilesBroughtOver g found told ended =
    (image : Image) → MayFollow g ended image → (history : List Event)
    → HoldsOldHistory file_names history found → BringsOver file_names history told image

-- Files that were closed are a sound file of some tables, whether or not they are seen to be those
-- of books: whatever may be found of it has the rows of the book that they held in an older form,
-- in this one; or, where it was not brought over, in one of the two.
abbrev pub RowsBroughtOver : {D : Type 0} (g : Ghosts D) → Image → Result Upgraded RepositoryFault
    → Ended D → Type 0
RowsBroughtOver g found told (Closed closed) =
    (image : Image) → MayBeFound g closed.files image
    → (book : Book) → HoldsOldBook file_names book found
    → ∥ ((file : HoldsFile image) × LeavesUpgraded file_names book told (rows_held file)) ∥₁
RowsBroughtOver g found told (Refused files) = ⊤

-- Books in files that were found so were brought from an older form to this one, or they were not.
pub record AreUpgraded {D : Type 0} (g : Ghosts D) (found : Image)
    (result : Result Upgraded RepositoryFault) (ended : Ended D) : Type 0 where
  -- Whatever may be found of them next holds the books of the history that they held, in one of the
  -- two forms; and so do their rows, also where no memory was left to see that they are those of
  -- books.
  pub history : HoldsOldForm found → FilesBroughtOver g found result ended
  pub rows : RowsBroughtOver g found result ended
  -- Files that are not opened are left as they were, whatever they hold. Books of this form are
  -- left as they are, whatever is answered, and are told to be of it, or of a newer one.
  pub unopened : AreAsFound g found ended
  pub kept : FilesGoOn g NoEvent found ended
  pub this : HoldsBooks found → IsToldOfThis g result ended
  -- What is told stands in the files, which are in hand then; and that there are no books is told
  -- only of files that hold none of an older form, or not their row.
  pub listed : IfOk result (λ upgraded. (image : Image) → MayFollow g ended image
      → HoldsWhatIsTold found upgraded)
  pub in_hand : IsOk result → AreInHand ended
  pub refused : IfErr result (WhyNotUpgraded g found ended)
