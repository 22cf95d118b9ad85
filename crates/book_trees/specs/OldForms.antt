-- Books of older forms, and what is added to bring them to this one.
use Rattle.std.specs.Prelude.{◌≡◌, ◌≢◌, ◌⊎◌, ◌<◌, ◌≤◌, ℕ, List, []}
use Rattle.std.specs.Prelude.{if◌then◌else◌, IsTrue, codes, true, false}
use Rattle.std.specs.List.{AllByRecursion}
use Rattle.sqlite_disk.specs.declared.Disk.{Ghosts}
use Rattle.sqlite_disk.specs.declared.files.Files.{Files}
use Rattle.sqlite_pages.specs.PageMap.{PageMap}
use Rattle.sqlite_pool.specs.File.{version_in}
use Rattle.sqlite_pool.specs.Stored.{Recovers}
use Rattle.sqlite_store.specs.Listing.{IsOurs, listed_from}
use Rattle.sqlite_store.specs.declared.catalog.Wanted.{Wanted}
use Rattle.sqlite_store.specs.declared.error.OpenError.{OpenError}
use Rattle.sqlite_store.specs.declared.error.OpenError.TheVariants as store
use Rattle.sqlite_store.specs.declared.store.FileStore.{FileStore}
use Rattle.sqlite_store.specs.declared.store.open.Unopened.{Unopened}
use Rattle.sqlite_store.specs.Unopened.{IsCatalogOf}
use Rattle.sqlite_trees.specs.Objects.{catalog_tree}
use Rattle.sqlite_trees.specs.Tree.{Trees}
use Rattle.sqlite_trees.specs.View.{IsClean, View}
use Rattle.sqlite_trees.specs.declared.store.Shape.{Shape}
use Rattle.sqlite_trees.specs.declared.store.Shape.TheVariants.{Absent, Index}
use Rattle.sqlite_value.specs.Keys.{plain}
use Rattle.sqlite_value.specs.Order.{Row, column}
use Rattle.sqlite_value.specs.declared.value.Value.TheVariants.{Text}
use Rattle.sqlite_wal.specs.Recovery.{Image}
use Rattle.tree_tables.specs.Forms.{this_form}
use Rattle.tree_tables.specs.Holds.{tree_count}
use Rattle.book_trees.specs.Forms.{HoldNoNewer, IsToldOf}
use Rattle.book_trees.specs.LedgerFiles.{page_size, HoldsTables}
use Rattle.book_trees.specs.Listing.{lists_old_books}
use Rattle.book_trees.specs.Refusals.{fault_for, IsUnopened}
use Rattle.book_trees.specs.Schema.{old_schema, table_count}
use Rattle.book_trees.specs.StoreView.{IsOpenAs}
use Rattle.book_trees.specs.declared.faults.OpenFault.{OpenFault}
use Rattle.book_trees.specs.declared.faults.OpenFault.TheVariants.{NewForm, NotBooks}
use Rattle.book_trees.specs.declared.old_forms.OldFault.{OldFault}
use Rattle.book_trees.specs.declared.old_forms.OldFault.TheVariants.{Already, Open, Pages}
use Rattle.book_trees.specs.declared.schema.OlderForm.{OlderForm}
use Rattle.book_trees.specs.declared.schema.OlderForm.TheVariants.{First, Second}

-- The files hold books of this older form, and list nothing else, each tree under its number: so a
-- ledger leaves them. They do not say that they are of a newer form.
pub record HoldsForm (form : OlderForm) (image : Image) : Type 0 where
  pub held : HoldsTables (old_schema form) image
  pub numbered : IsOurs page_size true (old_schema form) held.pages
  pub within : version_in held.pages ≤ this_form

-- of any of them
pub record HoldsOldForm (image : Image) : Type 0 where
  pub form : OlderForm
  pub own : HoldsForm form image

-- whatever books of an older form the files hold, they do not say that they are of a newer one
abbrev pub OldNoNewer : Image → Type 0
OldNoNewer image = (form : OlderForm) → HoldNoNewer (old_schema form) image

-- two images recover to the same pages
pub record AreAlike (one other : Image) : Type 0 where
  pub pages : PageMap
  pub found : Recovers page_size one pages
  pub again : Recovers page_size other pages

-- the files hold tables, whichever
abbrev pub HoldsSome : Image → Type 0
HoldsSome image = (schema : List Wanted) × HoldsTables schema image

-- the older form that rows list: the second, or else the first, whether or not they list it
abbrev pub form_listed : List Row → OlderForm
form_listed rows = if lists_old_books Second rows then Second else First

-- that the files list it was read of them
abbrev pub ReadsForm : {D : Type 0} {g : Ghosts D} → Unopened D g → Unopened D g → OlderForm → Type 0
ReadsForm old new form =
    (rows : List Row) × IsCatalogOf old new rows × (form ≡ form_listed rows)

-- the fault that an error of the store stands for, while the pages of files that list books of an
-- older form are looked through
abbrev pub old_fault_for : OpenError → OldFault
old_fault_for store.Refused = Pages
old_fault_for store.OutOfMemory = Open (fault_for store.OutOfMemory)
old_fault_for store.Io = Open (fault_for store.Io)
old_fault_for store.Full = Open (fault_for store.Full)

-- the fault of an opening that says as much of files: those that are of this form already, and
-- those whose pages are wrong, hold no books of an older one
abbrev pub old_opening : OldFault → OpenFault
old_opening Already = NotBooks
old_opening Pages = NotBooks
old_opening (Open fault) = fault

-- what is told of files that list the tables of this form: they are of it, or of a newer one
abbrev pub IsToldThis : OldFault → Type 0
IsToldThis fault = (fault ≡ Already) ⊎ (fault ≡ Open NewForm)

-- what is told of files that were not opened
abbrev pub IsToldOld : {D : Type 0} → OldFault → Files D → OldFault → Files D → Type 0
IsToldOld Already files told last = IsToldThis told
IsToldOld Pages files told last = (told ≡ Pages) × (last ≡ files)
IsToldOld (Open fault) files told last =
    (other : OpenFault) × (told ≡ Open other) × IsToldOf fault files other last

-- the files at a path were not opened
abbrev pub IsUnopenedOld : OldFault → Type 0
IsUnopenedOld Already = ⊥
IsUnopenedOld Pages = ⊥
IsUnopenedOld (Open fault) = IsUnopened fault

-- A store shows the trees of books of this older form, and may have more.
pub record HasOldTrees (view : View) : Type 0 where
  pub form : OlderForm
  pub numbered : IsTrue view.is_numbered
  pub listed : view.trees catalog_tree ≡ listed_from 0 (old_schema form)
  pub shapes : (tree : ℕ) → tree < table_count form → view.shape tree ≡ Index plain
  pub none : (tree : ℕ) → table_count form ≤ tree → tree < tree_count → view.shape tree ≡ Absent
  pub no_floats : view.reals 8 ≡ 0
  pub plain_records : view.reals 3 ≡ 0
  pub settled : view.committed_shape ≡ view.shape

-- A store of books of an older form is open.
abbrev pub IsOpenOld : {D : Type 0} {g : Ghosts D} → FileStore D g → Type 0
IsOpenOld store =
    (form : OlderForm)
    × IsOpenAs (old_schema form) (λ view. IsClean view → HasOldTrees view) store

-- the list of the trees is not that of books of an older form
abbrev pub ListMore : Trees → Type 0
ListMore trees = (form : OlderForm) → trees catalog_tree ≢ listed_from 0 (old_schema form)

-- the older form that a store shows by the shape of its tree of details
abbrev pub form_by : Shape → OlderForm
form_by (Index order) = Second
form_by _ = First

-- no tree that is listed has the name
abbrev pub IsFree : List ℕ → View → Type 0
IsFree name view =
    AllByRecursion (λ (row : Row). column row 2 ≢ Text name) (view.trees catalog_tree)

-- A store that showed the trees of an older form has this many now, of which those that were not
-- there have no row, and room for the others; nothing else is changed.
pub record HasGrown (count : ℕ) (form : OlderForm) (before now : View) : Type 0 where
  pub numbered : IsTrue now.is_numbered
  pub shapes : (tree : ℕ) → tree < count → now.shape tree ≡ Index plain
  pub absent : (tree : ℕ) → count ≤ tree → tree < tree_count → now.shape tree ≡ Absent
  pub no_floats : now.reals 8 ≡ 0
  pub plain_records : now.reals 3 ≡ 0
  pub credit_free : count ≤ 11 → IsFree (codes "credit") now
  pub replaced_free : count ≤ 12 → IsFree (codes "replaced") now
  pub journal_free : count ≤ 13 → IsFree (codes "journal") now
  pub trees : (tree : ℕ) → tree < table_count form → now.trees tree ≡ before.trees tree
  pub empty : (tree : ℕ) → table_count form ≤ tree → tree < count → now.trees tree ≡ []
  pub committed : now.committed ≡ before.committed
  pub is_open : now.is_open ≡ before.is_open
  pub broken : now.is_broken ≡ before.is_broken

-- a store has grown to this many
abbrev pub HasGrownTo : ℕ → View → Type 0
HasGrownTo count now =
    (form : OlderForm) × (before : View) × HasGrown count form before now

-- one that had grown to so many has grown to more
abbrev pub GrowsOn : ℕ → ℕ → View → View → Type 0
GrowsOn count next old new =
    (form : OlderForm) (before : View) → HasGrown count form before old
    → HasGrown next form before new

-- It has all trees of books, of which those that were not there have no row; nothing else is changed.
pub record AddsTables (form : OlderForm) (old new : View) : Type 0 where
  pub shapes : (tree : ℕ) → tree < tree_count → new.shape tree ≡ Index plain
  pub trees : (tree : ℕ) → tree < table_count form → new.trees tree ≡ old.trees tree
  pub empty : (tree : ℕ) → table_count form ≤ tree → tree < tree_count → new.trees tree ≡ []
  pub committed : new.committed ≡ old.committed
  pub is_open : new.is_open ≡ old.is_open
  pub was_sound : old.is_broken ≡ false
  pub sound : new.is_broken ≡ false
