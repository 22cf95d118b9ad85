-- What is so of a copy of books, part by part.
use Rattle.std.proofs.Common.{◌≡◌, IsTrue, Option, None, Some, Result, Ok, Err, inl, refl, subst, sym}
use Rattle.std.specs.Prelude.{IfOk, MatchOption}
use Rattle.sqlite_disk.specs.declared.Disk.{Ghosts}
use Rattle.sqlite_disk.specs.declared.files.Files.{Files}
use Rattle.sqlite_store.specs.FileStore.{state, view, IsReady}
use Rattle.sqlite_store.specs.declared.store.FileStore.{FileStore}
use Rattle.sqlite_wal.specs.Reads.{AreClean}
use Rattle.sqlite_wal.specs.Recovery.{Image}
use Rattle.book_core.specs.Transition.{Transition}
use Rattle.book_restarts.specs.FileBooks.{file_names}
use Rattle.book_trees.proofs.ClosedFiles.{both_true, first_true, second_true}
use Rattle.book_trees.specs.Copies.{AreOnlyRead, IsCopyRefusedWithout}
use Rattle.book_trees.specs.Forms.{HoldNoNewer, HoldsThisForm}
use Rattle.book_trees.specs.LedgerFiles.{image_of, HoldsBooks, trees_held}
use Rattle.book_trees.specs.Looks.{IsUnopenedLook}
use Rattle.book_trees.specs.Refusals.{MayLeave}
use Rattle.book_trees.specs.Schema.{books_schema}
use Rattle.book_trees.specs.declared.faults.OpenFault.TheVariants as opening
use Rattle.book_trees.specs.declared.integrity.LookFault.{LookFault}
use Rattle.book_trees.specs.declared.integrity.LookFault.TheVariants.{Pages, Open}
use Rattle.named_books.specs.declared.repository.RepositoryFault.{RepositoryFault}
use Rattle.book_sessions.proofs.Causes.{without_files}
use Rattle.book_sessions.proofs.SessionParts.{refused_goes_on}
use Rattle.book_sessions.specs.Causes.{WhyNotVisited}
use Rattle.book_sessions.specs.Faults.{open_fault}
use Rattle.book_sessions.specs.Openings.{IsOpenedFrom}
use Rattle.book_sessions.specs.Sessions.{AreOpened, OpenOnly}
use Rattle.book_sessions.specs.Visits.{AreVisited}
use Rattle.book_sessions.specs.declared.ended.Ended.{Ended}
use Rattle.book_sessions.specs.declared.ended.Ended.TheVariants.{Closed, Refused}
use Rattle.book_files.specs.Copies.{IsCopyOf, WereOnlyRead, WhyNotCopied}
use Rattle.book_files.specs.Faults.{not_copied}
use Rattle.book_files.specs.declared.copied.CopyFault.TheVariants as copies

-- where a copy was visited, it is one of what was found
pub copy_of : {A D Given : Type 0} (g : Ghosts D) (work : A → Transition) (found : Image)
    (answer : Result A RepositoryFault) (copy : Ended D)
    → (Given → AreVisited g work found answer copy) → (Given → OpenOnly g (HoldsBooks found) copy)
    → IfOk answer (λ made. Given → IsCopyOf g (work made) found copy)
copy_of g work found (Ok made) copy visited books = λ given. record {
  history = (visited given).history;
  alone = (visited given).alone;
  there = (visited given).there;
  books = books given;
}
copy_of g work found (Err fault) copy visited books = tt

-- a copy shows what was found of the files that were copied
pub copied_from : {D : Type 0} {g : Ghosts D} (here found : Image) → here ≡ found
    → (store : FileStore D g) → IsReady store
    → (IsTrue (state store).is_clean → (held : HoldsBooks here) → (view store).trees ≡ trees_held held)
    → (IsTrue (state store).is_clean → HoldNoNewer books_schema here) → IsOpenedFrom found store
copied_from here found same store ready shows form =
    subst (λ (image : Image). IsOpenedFrom image store) same
    (record { ready = ready; shows = shows; form = form })

-- files of which a stop leaves what was found, and that were read since
pub were_only_read : {D : Type 0} (g : Ghosts D) → ((file : D) → g.may_leave file (g.seen file))
    → (found : Image) (first files : Files D)
    → ((left : Image) → MayLeave g first left → left ≡ found) → AreOnlyRead g first files
    → WereOnlyRead g found files
were_only_read g stays found first files kept read =
    let same : (left : Image) → MayLeave g files left → left ≡ found =
    (λ left may. kept left (
      both_true (g.is_clean first.log) (g.is_clean first.db)
          (read.log.clean (first_true (g.is_clean files.log) (g.is_clean files.db) may.0))
          (read.db.clean (second_true (g.is_clean files.log) (g.is_clean files.db) may.0)),
      (read.log.crash left.log may.1.0, read.db.crash left.db may.1.1),
    )) in
    record {
      same = same;
      history = refused_goes_on g file_names found (Some files)
          (record { kept = λ left may. inl (same left may); log = stays files.log });
    }

-- files of which there is no copy have the cause of the copying
pub uncopied_cause : {A B : Type 0} (one : Ghosts A) (two : Ghosts B) (found : Image)
    (first original : Files A) → image_of one first ≡ found → (fault : LookFault)
    (copy : Option (Files B))
    → MatchOption copy (IsUnopenedLook fault) (IsCopyRefusedWithout one two first original fault)
    → WhyNotCopied one two found (Some original) (Refused copy) (not_copied fault)
uncopied_cause one two found first original same Pages None cause = cause
uncopied_cause one two found first original same (Open fault) None cause =
    without_files open_fault refl refl refl fault cause
uncopied_cause one two found first original same Pages (Some copy) cause = λ honest clean held.
    cause honest clean (subst HoldsThisForm (sym same) held)
uncopied_cause one two found first original same (Open opening.NotBooks) (Some copy) cause =
    λ honest clean held. cause honest clean (subst HoldsThisForm (sym same) held)
uncopied_cause one two found first original same (Open opening.OldForm) (Some copy) cause =
    λ honest clean held. cause honest clean (subst HoldsThisForm (sym same) held)
uncopied_cause one two found first original same (Open opening.NewForm) (Some copy) cause =
    λ honest clean held. cause honest clean (subst HoldsThisForm (sym same) held)
uncopied_cause one two found first original same (Open opening.Memory) (Some copy) cause =
    λ honest clean. tt
uncopied_cause one two found first original same (Open opening.Store) (Some copy) cause =
    λ honest clean. tt
uncopied_cause one two found first original same (Open opening.Busy) (Some copy) cause =
    λ honest clean. cause honest clean
uncopied_cause one two found first original same (Open opening.Path) (Some copy) cause =
    λ honest clean. cause honest clean

-- and files of which the copy was opened have that of its visit
pub unvisited_cause : {A B : Type 0} (one : Ghosts A) (two : Ghosts B) (found : Image)
    (original : Files A) (copy : Ended B) → AreOpened copy → (fault : RepositoryFault)
    → (AreClean one original.log original.db → WhyNotVisited two found copy fault)
    → WhyNotCopied one two found (Some original) copy (copies.Refused fault)
unvisited_cause one two found original (Closed closed) opened fault cause = cause
unvisited_cause one two found original (Refused files) opened fault cause = absurd opened
