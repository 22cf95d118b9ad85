-- What files say of the form of their books, by SQLite's user version.
use Rattle.std.specs.Prelude.{◌≡◌, ◌⊎◌, ◌≤◌, ◌<◌, ℕ, List, false}
use Rattle.sqlite_disk.specs.declared.files.Files.{Files}
use Rattle.sqlite_pool.specs.File.{version_in}
use Rattle.sqlite_pool.specs.Header.{user_version}
use Rattle.sqlite_store.specs.declared.catalog.Wanted.{Wanted}
use Rattle.sqlite_trees.specs.Objects.{version_rows, version_tree, with_version}
use Rattle.sqlite_trees.specs.Tree.{Trees}
use Rattle.sqlite_trees.specs.View.{View}
use Rattle.sqlite_wal.specs.Recovery.{Image}
use Rattle.tree_tables.specs.Forms.{this_form}
use Rattle.book_trees.specs.LedgerFiles.{HoldsBooks, HoldsTables}
use Rattle.book_trees.specs.declared.faults.OpenFault.{OpenFault}
use Rattle.book_trees.specs.declared.faults.OpenFault.TheVariants.{NewForm, NotBooks, OldForm}

-- the trees say that they are of a form
abbrev pub SayForm : ℕ → Trees → Type 0
SayForm form trees = trees version_tree ≡ version_rows form

-- they say that they are of a newer one
abbrev pub AreNewer : Trees → Type 0
AreNewer trees = (form : ℕ) × SayForm form trees × (this_form < form)

-- The files hold books, and do not say that they are of a newer form.
pub record HoldsThisForm (image : Image) : Type 0 where
  pub held : HoldsBooks image
  pub form : version_in held.pages ≤ this_form

-- whatever such tables the files hold, they do not say that they are of a newer form
abbrev pub HoldNoNewer : List Wanted → Image → Type 0
HoldNoNewer schema image = (held : HoldsTables schema image) → version_in held.pages ≤ this_form

-- where a file says its form, in its first page
abbrev pub form_in : List ℕ → ℕ
form_in bytes = user_version bytes

-- files list books of another form: of the first, or, if they say so, of a newer one
abbrev pub IsOtherForm : OpenFault → Type 0
IsOtherForm fault = (fault ≡ OldForm) ⊎ (fault ≡ NewForm)

-- what is told of them where they do not say that they are of a newer form
abbrev pub unless_newer : OpenFault → OpenFault
unless_newer OldForm = OldForm
unless_newer _ = NotBooks

-- What is told of files that were refused, by what they say themselves: the fault that was met, of
-- the same files; but of those that list another form, that they are of a newer one, or what else
-- they are.
abbrev pub IsToldOf : {D : Type 0} → OpenFault → Files D → OpenFault → Files D → Type 0
IsToldOf fault files told last =
    ((told ≡ fault) × (last ≡ files))
    ⊎ (IsOtherForm fault × ((told ≡ NewForm) ⊎ (told ≡ unless_newer fault)))

-- A store is at rest with the trees that it had, of the shapes that they had, which say now that they
-- are of this form.
pub record IsSaid (old new : View) : Type 0 where
  pub was_sound : old.is_broken ≡ false
  pub trees : new.trees ≡ with_version old.trees this_form
  pub shape : new.shape ≡ old.shape
  pub committed_shape : new.committed_shape ≡ old.shape
  pub settled : new.trees ≡ new.committed
  pub sound : new.is_broken ≡ false
  pub is_open : new.is_open ≡ old.is_open
