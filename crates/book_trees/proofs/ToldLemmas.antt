-- What is told of files that were refused, once it was read what they say of themselves.
use Rattle.std.proofs.Common.{◌≡◌, ◌≢◌, ◌∙◌, inl, inr, refl, sym, subst}
use Rattle.sqlite_disk.specs.declared.files.Files.{Files}
use Rattle.book_trees.specs.OldForms.{old_opening, IsToldOld, IsToldThis}
use Rattle.book_trees.specs.Forms.{IsOtherForm, IsToldOf, unless_newer}
use Rattle.book_trees.specs.Looks.{look_opening, IsToldLook}
use Rattle.book_trees.specs.Refusals.{IsToldWithout}
use Rattle.book_trees.specs.declared.faults.OpenFault.{OpenFault}
use Rattle.book_trees.specs.declared.old_forms.OldFault.{OldFault}
use Rattle.book_trees.specs.declared.old_forms.OldFault.TheVariants as first
use Rattle.book_trees.specs.declared.integrity.LookFault.{LookFault}
use Rattle.book_trees.specs.declared.integrity.LookFault.TheVariants.{Open, Pages}

-- files that list another form do not hold what they have to,
not_held : (Held : Type 0) (fault : OpenFault) → IsOtherForm fault → IsToldWithout Held fault
    → Held → ⊥
not_held Held fault (inl first) why =
    subst (λ (fault : OpenFault). IsToldWithout Held fault) first why
not_held Held fault (inr newer) why =
    subst (λ (fault : OpenFault). IsToldWithout Held fault) newer why

-- whatever else they are
else_told : (Held : Type 0) (fault : OpenFault) → IsOtherForm fault → (Held → ⊥)
    → IsToldWithout Held (unless_newer fault)
else_told Held fault (inl first) none =
    subst (λ (fault : OpenFault). IsToldWithout Held (unless_newer fault)) (sym first) none
else_told Held fault (inr newer) none =
    subst (λ (fault : OpenFault). IsToldWithout Held (unless_newer fault)) (sym newer) none

-- Files were refused, and what they say of themselves was read: so much is told of them as of what
-- was met.
module _ {D : Type 0} (Held : Type 0) (files last : Files D) where
  pub still_told : (fault told : OpenFault) → IsToldOf fault files told last
      → IsToldWithout Held fault → IsToldWithout Held told
  still_told fault told (inl same) why =
      subst (λ (fault : OpenFault). IsToldWithout Held fault) (sym same.0) why
  still_told fault told (inr (other, inl newer)) why =
      subst (λ (fault : OpenFault). IsToldWithout Held fault) (sym newer)
      (not_held Held fault other why)
  still_told fault told (inr (other, inr is)) why =
      subst (λ (fault : OpenFault). IsToldWithout Held fault) (sym is)
      (else_told Held fault other (not_held Held fault other why))

  pub look_still_told : (fault told : LookFault) → IsToldLook fault files told last
      → IsToldWithout Held (look_opening fault) → IsToldWithout Held (look_opening told)
  look_still_told Pages told same why =
      subst (λ (fault : LookFault). IsToldWithout Held (look_opening fault)) (sym same.0) why
  look_still_told (Open fault) told is why =
      subst (λ (fault : LookFault). IsToldWithout Held (look_opening fault)) (sym is.1)
      (still_told fault is.0 is.2 why)

  -- files that list the tables of this form are of it, or of a newer one
  this_told : (told : OldFault) → IsToldThis told → (Held → ⊥)
      → IsToldWithout Held (old_opening told)
  this_told told (inl already) none =
      subst (λ (fault : OldFault). IsToldWithout Held (old_opening fault)) (sym already) none
  this_told told (inr newer) none =
      subst (λ (fault : OldFault). IsToldWithout Held (old_opening fault)) (sym newer) none

  pub old_still_told : (fault told : OldFault) → IsToldOld fault files told last
      → IsToldWithout Held (old_opening fault) → IsToldWithout Held (old_opening told)
  old_still_told first.Already told is why = this_told told is why
  old_still_told first.Pages told same why =
      subst (λ (fault : OldFault). IsToldWithout Held (old_opening fault)) (sym same.0) why
  old_still_told (first.Open fault) told is why =
      subst (λ (fault : OldFault). IsToldWithout Held (old_opening fault)) (sym is.1)
      (still_told fault is.0 is.2 why)

  -- where files of this form are told not to be so, that is told of what was met
  pub told_not_this : (fault told : OldFault) → IsToldOld fault files told last
      → (fault ≢ first.Already → IsToldWithout Held (old_opening fault)) → (IsToldThis told → ⊥)
      → IsToldWithout Held (old_opening told)
  told_not_this first.Already told is why other = absurd (other is)
  told_not_this first.Pages told is why other =
      old_still_told first.Pages told is (why (λ same. absurd (cc)))
  told_not_this (first.Open fault) told is why other =
      old_still_told (first.Open fault) told is (why (λ same. absurd (cc)))

-- pages that are told of files were met
pub told_pages : {D : Type 0} (fault : LookFault) (files : Files D) (told : LookFault)
    (last : Files D) → IsToldLook fault files told last → told ≡ Pages → fault ≡ Pages
told_pages Pages files told last tells is = refl
told_pages (Open fault) files told last tells is = absurd (let other = sym tells.1 ∙ is in cc)

-- so were files that are of this form already
pub told_already : {D : Type 0} (fault : OldFault) (files : Files D) (told : OldFault)
    (last : Files D) → IsToldOld fault files told last → told ≡ first.Already
    → fault ≡ first.Already
told_already first.Already files told last tells is = refl
told_already first.Pages files told last tells is = absurd (let other = sym tells.0 ∙ is in cc)
told_already (first.Open fault) files told last tells is =
    absurd (let other = sym tells.1 ∙ is in cc)
