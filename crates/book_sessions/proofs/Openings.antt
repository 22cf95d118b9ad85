-- What is known of the call that opened the files of a session.
use Rattle.std.proofs.Common.{◌≡◌, IsTrue, Option, None, Some, Result, Ok, Err, refl, subst, sym}
use Rattle.std.proofs.Common.{IfErr, IfOk, IfSome, MatchOption}
use Rattle.book_trees.specs.OldForms.{HoldsOldForm, IsToldThis, IsUnopenedOld, OldNoNewer}
use Rattle.book_trees.specs.OldForms.{old_opening}
use Rattle.book_trees.specs.Forms.{HoldNoNewer}
use Rattle.book_trees.specs.LedgerFiles.{AreEmptyTables, HoldsOldBooks, HoldsNothing, old_trees}
use Rattle.book_trees.specs.Looks.{IsUnopenedLook, look_opening}
use Rattle.book_trees.specs.Refusals.{IsAsFound, IsBegun, IsUnopened, MayLeave}
use Rattle.book_trees.specs.StoreView.{ListsBooks}
use Rattle.book_trees.specs.declared.faults.OpenFault.{OpenFault}
use Rattle.book_trees.specs.declared.old_forms.OldFault.{OldFault}
use Rattle.book_trees.specs.declared.old_forms.OldFault.TheVariants.{Already}
use Rattle.book_trees.specs.declared.integrity.LookFault.{LookFault}
use Rattle.book_trees.specs.declared.integrity.LookFault.TheVariants.{Pages}
use Rattle.book_sessions.proofs.Words.{Ghosts, Files, state, view, IsReady, FileStore, clean_of}
use Rattle.book_sessions.proofs.Words.{IsClean, AreClean, Image, HoldsThisForm, HoldsBooks}
use Rattle.book_sessions.proofs.Words.{trees_held, IsRefusedWithout, books_schema, Closed}
use Rattle.book_sessions.proofs.Words.{AreLeftAsFound}
use Rattle.book_sessions.specs.Openings.{IsCarriedBy, IsCreation, IsOldOpening, IsLooking}
use Rattle.book_sessions.specs.Openings.{IsOpening}
use Rattle.book_sessions.specs.Sessions.{OpenOnly}
use Rattle.book_sessions.specs.declared.ended.Ended.{Ended}
use Rattle.book_sessions.specs.declared.ended.Ended.TheVariants.{Refused}
use Rattle.book_sessions.specs.declared.ended.Ended.TheVariants as ended

-- what is said of files that are in hand may be said in other words
pub some_so : {A : Type 0} {One Other : A → Type 0} (files : Option A) → IfSome files One
    → ((it : A) → One it → Other it) → IfSome files Other
some_so None one so = tt
some_so (Some it) one so = so it one

-- what is known of the store of an opening is known of the one that there is
pub the_store : {S F : Type 0} (Says : S → Type 0) (opened : Result S F) (store : S)
    → opened ≡ Ok store → IfOk opened Says → Says store
the_store {S} {F} Says opened store is says =
    subst (λ (it : Result S F). IfOk it Says) is says

-- A session that was begun with a store has closed files in hand,
pub carried_closed : {D F : Type 0} {g : Ghosts D}
    (opened : Result (FileStore D g) (F × Option (Files D))) (store : FileStore D g)
    (closed : Closed D) → opened ≡ Ok store
    → (AreClean g closed.files.log closed.files.db → IsClean (view store))
    → IsCarriedBy g opened (ended.Closed closed)
carried_closed {D} {F} {g} opened store closed is clean =
    subst (λ (it : Result (FileStore D g) (F × Option (Files D))).
    IsCarriedBy g it (ended.Closed closed)) (sym is) (record { back = tt; honest = clean })

-- and one that was not has what the opening gave back.
pub carried_refused : {D F : Type 0} {g : Ghosts D}
    (opened : Result (FileStore D g) (F × Option (Files D))) (fault : F) (files : Option (Files D))
    → opened ≡ Err (fault, files) → IsCarriedBy g opened (Refused files)
carried_refused {D} {F} {g} opened fault files is =
    subst (λ (it : Result (FileStore D g) (F × Option (Files D))). IsCarriedBy g it (Refused files))
    (sym is) (record { back = refl; honest = tt })

-- no files were opened but those of which the opening says what they held
pub open_only : {D F : Type 0} {g : Ghosts D} (Held : Type 0)
    (opened : Result (FileStore D g) (F × Option (Files D))) (last : Ended D)
    → IfOk opened (λ store. IsTrue (state store).is_clean → ∥ Held ∥₁)
    → IsCarriedBy g opened last → OpenOnly g Held last
open_only Held opened (Refused files) held carried = tt
open_only Held (Ok store) (ended.Closed closed) held carried =
    λ honest. held (clean_of _ (carried.honest honest))
open_only Held (Err refusal) (ended.Closed closed) held carried =
    absurd (let never : ended.Closed closed ≡ Refused refusal.1 = carried.back in cc)

-- refused files are left as they were found
pub left_as_found : {D : Type 0} (g : Ghosts D) → ((file : D) → g.may_leave file (g.seen file))
    → (found : Image) (files : Option (Files D))
    → IfSome files (λ files. (left : Image) → MayLeave g files left → IsAsFound found left)
    → IfSome files (AreLeftAsFound g found)
left_as_found g stays found None kept = tt
left_as_found g stays found (Some files) kept = record { kept = kept; log = stays files.log }

-- the opening of books
pub opening_at : {D : Type 0} (g : Ghosts D) → ((file : D) → g.may_leave file (g.seen file))
    → (found : Image) (opened : Result (FileStore D g) (OpenFault × Option (Files D)))
    → IfOk opened IsReady
    → IfOk opened (λ store. IsTrue (state store).is_clean → (held : HoldsBooks found)
    → (view store).trees ≡ trees_held held)
    → IfOk opened (λ store. IsTrue (state store).is_clean → HoldNoNewer books_schema found)
    → IfErr opened (λ refusal. MatchOption refusal.1 (IsUnopened refusal.0)
    (IsRefusedWithout g (HoldsThisForm found) refusal.0))
    → IfErr opened (λ refusal. IfSome refusal.1 (λ files. (left : Image) → MayLeave g files left
    → IsAsFound found left))
    → IsOpening g found opened
opening_at g stays found (Ok store) ready shows form there kept =
    record { ready = ready; shows = shows; form = form }
opening_at g stays found (Err refusal) ready shows form there kept =
    (there, left_as_found g stays found refusal.1 kept)

-- the making of their tables
pub creation_at : {D : Type 0} (g : Ghosts D) (found : Image)
    (opened : Result (FileStore D g) (OpenFault × Option (Files D)))
    → IfOk opened IsReady
    → IfOk opened (λ store. IsTrue (state store).is_clean → AreEmptyTables (view store).committed)
    → IfOk opened (λ store. IsTrue (state store).is_clean → ∥ HoldsNothing found ∥₁)
    → IfErr opened (λ refusal. MatchOption refusal.1 (IsUnopened refusal.0)
    (IsRefusedWithout g (HoldsNothing found) refusal.0))
    → IfErr opened (λ refusal. HoldsNothing found → IfSome refusal.1 (λ files. (left : Image)
    → MayLeave g files left → IsBegun left))
    → IfErr opened (λ refusal. (¬ HoldsNothing found) → IfSome refusal.1 (λ files. (left : Image)
    → MayLeave g files left → IsAsFound found left))
    → IsCreation g found opened
creation_at g found (Ok store) ready empty started there begun kept =
    record { ready = ready; empty = empty; started = started }
creation_at g found (Err refusal) ready empty started there begun kept = (there, begun, kept)

-- the look through all of their pages
pub looking_at : {D : Type 0} (g : Ghosts D) → ((file : D) → g.may_leave file (g.seen file))
    → (found : Image) (opened : Result (FileStore D g) (LookFault × Option (Files D)))
    → IfOk opened IsReady
    → IfOk opened (λ store. IsTrue (state store).is_clean → (held : HoldsBooks found)
    → (view store).trees ≡ trees_held held)
    → IfOk opened (λ store. IsTrue (state store).is_clean → ∥ HoldsBooks found ∥₁)
    → IfErr opened (λ refusal. MatchOption refusal.1 (IsUnopenedLook refusal.0)
    (IsRefusedWithout g (HoldsThisForm found) (look_opening refusal.0)))
    → IfErr opened (λ refusal. refusal.0 ≡ Pages → IfSome refusal.1 (λ files.
    AreClean g files.log files.db → ListsBooks found))
    → IfErr opened (λ refusal. IfSome refusal.1 (λ files. (left : Image) → MayLeave g files left
    → IsAsFound found left))
    → IsLooking g found opened
looking_at g stays found (Ok store) ready shows held there lists kept =
    record { ready = ready; shows = shows; held = held }
looking_at g stays found (Err refusal) ready shows held there lists kept =
    (there, left_as_found g stays found refusal.1 kept, lists)

-- and the opening of books of an older form
pub old_opening_at : {D : Type 0} (g : Ghosts D) → ((file : D) → g.may_leave file (g.seen file))
    → (found : Image) (opened : Result (FileStore D g) (OldFault × Option (Files D)))
    → IfOk opened IsReady
    → IfOk opened (λ store. IsTrue (state store).is_clean → (held : HoldsOldBooks found)
    → (view store).trees ≡ old_trees held)
    → IfOk opened (λ store. IsTrue (state store).is_clean → ¬ HoldsBooks found)
    → IfOk opened (λ store. IsTrue (state store).is_clean → ∥ HoldsOldBooks found ∥₁)
    → IfOk opened (λ store. IsTrue (state store).is_clean → OldNoNewer found)
    → IfErr opened (λ refusal. MatchOption refusal.1 (IsUnopenedOld refusal.0)
    (IsRefusedWithout g (HoldsOldForm found) (old_opening refusal.0)))
    → IfErr opened (λ refusal. (¬ IsToldThis refusal.0) → IfSome refusal.1
    (IsRefusedWithout g (HoldsBooks found) (old_opening refusal.0)))
    → IfErr opened (λ refusal. refusal.0 ≡ Already → IfSome refusal.1 (λ files.
    AreClean g files.log files.db → ListsBooks found))
    → IfErr opened (λ refusal. IfSome refusal.1 (λ files. (left : Image) → MayLeave g files left
    → IsAsFound found left))
    → IsOldOpening g found opened
old_opening_at g stays found (Ok store) ready shows older held form there this lists kept =
    record { ready = ready; shows = shows; older = older; held = held; form = form }
old_opening_at g stays found (Err refusal) ready shows older held form there this lists kept =
    (there, left_as_found g stays found refusal.1 kept, this, lists)
