-- How files were opened for a session, by what they held before.
use Rattle.std.specs.Prelude.{◌≡◌, IfOk, IfSome, IsTrue, MatchOption, Option, Result, Ok, Err}
use Rattle.sqlite_disk.specs.declared.Disk.{Ghosts}
use Rattle.sqlite_disk.specs.declared.files.Files.{Files}
use Rattle.sqlite_store.specs.FileStore.{IsReady, state, view}
use Rattle.sqlite_store.specs.declared.store.FileStore.{FileStore}
use Rattle.sqlite_trees.specs.View.{IsClean}
use Rattle.sqlite_wal.specs.Reads.{AreClean}
use Rattle.sqlite_wal.specs.Recovery.{Image}
use Rattle.book_trees.specs.OldForms.{HoldsOldForm, IsToldThis, IsUnopenedOld, OldNoNewer}
use Rattle.book_trees.specs.OldForms.{old_opening}
use Rattle.book_trees.specs.Forms.{HoldNoNewer, HoldsThisForm}
use Rattle.book_trees.specs.LedgerFiles.{AreEmptyTables, HoldsBooks, HoldsOldBooks, HoldsNothing}
use Rattle.book_trees.specs.LedgerFiles.{old_trees, trees_held}
use Rattle.book_trees.specs.Looks.{IsUnopenedLook, look_opening}
use Rattle.book_trees.specs.Refusals.{IsAsFound, IsBegun, IsRefusedWithout, IsUnopened, MayLeave}
use Rattle.book_trees.specs.Schema.{books_schema}
use Rattle.book_trees.specs.StoreView.{ListsBooks}
use Rattle.book_sessions.specs.Sessions.{AreHonest, GivesBack, files_in_hand}
use Rattle.book_sessions.specs.declared.ended.Ended.{Ended}
use Rattle.book_trees.specs.declared.faults.OpenFault.{OpenFault}
use Rattle.book_trees.specs.declared.old_forms.OldFault.{OldFault}
use Rattle.book_trees.specs.declared.old_forms.OldFault.TheVariants.{Already}
use Rattle.book_trees.specs.declared.integrity.LookFault.{LookFault}
use Rattle.book_trees.specs.declared.integrity.LookFault.TheVariants.{Pages}

-- A session gives back what it was begun with; and no lie of a disk was taken as true in its store, if
-- none was in the files that are in hand once it is closed.
pub record IsCarriedBy {D F : Type 0} (g : Ghosts D)
    (opened : Result (FileStore D g) (F × Option (Files D))) (ended : Ended D) : Type 0 where
  pub back : GivesBack opened ended
  pub honest : IfOk opened (λ store. AreHonest g (files_in_hand ended) → IsClean (view store))

-- A store was opened from files that held this: it shows the tables of books that they held, and
-- they do not say that they are of a newer form.
pub record IsOpenedFrom {D : Type 0} {g : Ghosts D} (found : Image) (store : FileStore D g) : Type 0
  where
    pub ready : IsReady store
    pub shows : IsTrue (state store).is_clean → (held : HoldsBooks found)
        → (view store).trees ≡ trees_held held
    pub form : IsTrue (state store).is_clean → HoldNoNewer books_schema found

-- A stop leaves files that were not opened as they were found, or standing for the same pages; and
-- it may leave their log as it is seen.
pub record AreLeftAsFound {D : Type 0} (g : Ghosts D) (found : Image) (files : Files D) : Type 0 where
  pub kept : (left : Image) → MayLeave g files left → IsAsFound found left
  pub log : g.may_leave files.log (g.seen files.log)

-- A store of the tables of books was made in files that held this: nothing.
pub record IsCreatedFrom {D : Type 0} {g : Ghosts D} (found : Image) (store : FileStore D g) : Type 0
  where
    pub ready : IsReady store
    pub empty : IsTrue (state store).is_clean → AreEmptyTables (view store).committed
    pub started : IsTrue (state store).is_clean → ∥ HoldsNothing found ∥₁

-- Files that held this were opened as books; or they were not, and are left as they were found:
-- they hold none of this form where that is told, and none are in hand where they are out of reach.
abbrev pub IsOpening : {D : Type 0} (g : Ghosts D) → Image
    → Result (FileStore D g) (OpenFault × Option (Files D)) → Type 0
IsOpening g found (Ok store) = IsOpenedFrom found store
IsOpening g found (Err refusal) =
    MatchOption refusal.1 (IsUnopened refusal.0) (IsRefusedWithout g (HoldsThisForm found) refusal.0)
    × IfSome refusal.1 (AreLeftAsFound g found)

-- Files that held this got the tables of books; or they did not, and something was there where that
-- is told: files that held nothing hold a part of nothing, or all tables with no row, and others
-- are as they were found.
abbrev pub IsCreation : {D : Type 0} (g : Ghosts D) → Image
    → Result (FileStore D g) (OpenFault × Option (Files D)) → Type 0
IsCreation g found (Ok store) = IsCreatedFrom found store
IsCreation g found (Err refusal) =
    MatchOption refusal.1 (IsUnopened refusal.0) (IsRefusedWithout g (HoldsNothing found) refusal.0)
    × (HoldsNothing found
    → IfSome refusal.1 (λ files. (left : Image) → MayLeave g files left → IsBegun left))
    × ((¬ HoldsNothing found)
    → IfSome refusal.1 (λ files. (left : Image) → MayLeave g files left → IsAsFound found left))

-- All pages of files that held this were looked through, and a store was opened from them: they
-- held books, whose tables it shows.
pub record IsLookedFrom {D : Type 0} {g : Ghosts D} (found : Image) (store : FileStore D g) : Type 0
  where
    pub ready : IsReady store
    pub shows : IsTrue (state store).is_clean → (held : HoldsBooks found)
        → (view store).trees ≡ trees_held held
    pub held : IsTrue (state store).is_clean → ∥ HoldsBooks found ∥₁

-- Files that held this were looked through; or they were not, and are left as they were found: they
-- hold no books of this form where that is told, and list their tables where their pages are called
-- wrong.
abbrev pub IsLooking : {D : Type 0} (g : Ghosts D) → Image
    → Result (FileStore D g) (LookFault × Option (Files D)) → Type 0
IsLooking g found (Ok store) = IsLookedFrom found store
IsLooking g found (Err refusal) =
    MatchOption refusal.1 (IsUnopenedLook refusal.0)
    (IsRefusedWithout g (HoldsThisForm found) (look_opening refusal.0))
    × IfSome refusal.1 (AreLeftAsFound g found)
    × (refusal.0 ≡ Pages
    → IfSome refusal.1 (λ files. AreClean g files.log files.db → ListsBooks found))

-- A store was opened from files that held this: books of an older form, whose tables it shows.
-- They do not say that they are of a newer form, and there are none of this one.
pub record IsOldFrom {D : Type 0} {g : Ghosts D} (found : Image) (store : FileStore D g) : Type 0
  where
    pub ready : IsReady store
    pub shows : IsTrue (state store).is_clean → (held : HoldsOldBooks found)
        → (view store).trees ≡ old_trees held
    pub older : IsTrue (state store).is_clean → ¬ HoldsBooks found
    pub held : IsTrue (state store).is_clean → ∥ HoldsOldBooks found ∥₁
    pub form : IsTrue (state store).is_clean → OldNoNewer found

-- Files that held this were opened as books of an older form; or they were not, and are left as
-- they were found: they hold none of it where that is told, no books of this form but where these
-- are told to be of it or of a newer one, and list the tables of this form where they are told to
-- be of it.
abbrev pub IsOldOpening : {D : Type 0} (g : Ghosts D) → Image
    → Result (FileStore D g) (OldFault × Option (Files D)) → Type 0
IsOldOpening g found (Ok store) = IsOldFrom found store
IsOldOpening g found (Err refusal) =
    MatchOption refusal.1 (IsUnopenedOld refusal.0)
    (IsRefusedWithout g (HoldsOldForm found) (old_opening refusal.0))
    × IfSome refusal.1 (AreLeftAsFound g found)
    × ((¬ IsToldThis refusal.0)
    → IfSome refusal.1 (IsRefusedWithout g (HoldsBooks found) (old_opening refusal.0)))
    × (refusal.0 ≡ Already
    → IfSome refusal.1 (λ files. AreClean g files.log files.db → ListsBooks found))
