-- The form of books, as a store says it and as a file does.
use Rattle.std.proofs.Common.{◌≡◌, ◌≤◌, ℕ, pos, List, [], ◌∷◌, IsTrue, arith, ap, inl, inr, sym, ◌∙◌}
use Rattle.std.proofs.lemmas.Bool.{cases_lt}
use Rattle.sqlite_disk.specs.declared.Disk.{Ghosts}
use Rattle.sqlite_disk.specs.declared.files.Files.{Files}
use Rattle.sqlite_pool.specs.File.{version_in}
use Rattle.sqlite_store.specs.FileStore.{state, view, files as store_files, IsReady}
use Rattle.sqlite_store.specs.Unopened.{files_of, image}
use Rattle.sqlite_store.specs.declared.catalog.Wanted.{Wanted}
use Rattle.sqlite_store.specs.declared.store.FileStore.{FileStore}
use Rattle.sqlite_store.specs.declared.store.open.Unopened.{Unopened}
use Rattle.sqlite_trees.proofs.Doubt.{no_doubt}
use Rattle.sqlite_trees.specs.Objects.{version_rows, version_tree}
use Rattle.sqlite_trees.specs.Tree.{Trees}
use Rattle.sqlite_trees.specs.View.{IsClean}
use Rattle.sqlite_value.specs.Order.{Row, column}
use Rattle.sqlite_value.specs.declared.value.Value.{Value}
use Rattle.sqlite_value.specs.declared.value.Value.TheVariants.{Int}
use Rattle.sqlite_wal.specs.Reads.{AreClean}
use Rattle.sqlite_wal.specs.Recovery.{Image}
use Rattle.tree_tables.specs.Forms.{this_form}
use Rattle.book_trees.specs.Forms.{AreNewer, HoldNoNewer, SayForm}
use Rattle.book_trees.specs.LedgerFiles.{image_of, HoldsTables, trees_held}
use Rattle.book_trees.proofs.FileParts.{shows_given, store_honest}

-- the number in a value, if it is one
number_of : Value → ℕ
number_of (Int (pos n)) = n
number_of _ = 0

-- the number in the first row
version_of : List Row → ℕ
version_of [] = 0
version_of (row ∷ rows) = number_of (column row 1)

-- trees that say that they are of this form, or of an older one, are not of a newer one
pub not_newer : (trees : Trees) (form : ℕ) → SayForm form trees → form ≤ this_form
    → AreNewer trees → ⊥
unfolding version_of number_of
not_newer trees form says within newer =
    let same : version_rows newer.0 ≡ version_rows form = sym newer.1 ∙ says in
    let number : newer.0 ≡ form = ap version_of same in
    let above = newer.2 in
    absurd (omega (arith, number, within, above))

-- a store that shows tables of files says what these say
form_shown : {wanted : List Wanted} {D : Type 0} {g : Ghosts D} (store : FileStore D g) (image : Image)
    → ((held : HoldsTables wanted image) → (view store).trees ≡ trees_held held)
    → (held : HoldsTables wanted image) → SayForm (version_in held.pages) (view store).trees
form_shown store image shows held = ap (λ (trees : Trees). trees version_tree) (shows held)

-- Files do not hold tables of this form, or of an older one, whose store says that it is of a newer
-- one, and is closed again.
pub newer_refused : {wanted : List Wanted} {D : Type 0} {g : Ghosts D} (old : Unopened D g)
    (store : FileStore D g) (first last : Files D) → files_of old ≡ (first.log, first.db)
    → (last.log, last.db) ≡ store_files store → IsReady store
    → (IsTrue (state store).is_clean → (held : HoldsTables wanted (image old))
    → (view store).trees ≡ trees_held held)
    → (IsClean (view store) → IsTrue (view store).is_open → AreNewer (view store).trees)
    → AreClean g last.log last.db → (held : HoldsTables wanted (image_of g first))
    → version_in held.pages ≤ this_form → ⊥
newer_refused {g = g} old store first last given back ready found newer clean =
    let honest = store_honest store last back clean in
    let sure = no_doubt _ honest in
    λ held within. not_newer (view store).trees (version_in held.pages)
    (form_shown store (image_of g first) (shows_given old store first given found honest) held)
    within (newer sure (ready.is_open sure))

-- And files whose store does not say so hold no tables of a newer one.
pub none_newer : {wanted : List Wanted} {D : Type 0} {g : Ghosts D} (old : Unopened D g)
    (store : FileStore D g) (first : Files D) → files_of old ≡ (first.log, first.db)
    → IsReady store
    → (IsTrue (state store).is_clean → (held : HoldsTables wanted (image old))
    → (view store).trees ≡ trees_held held)
    → (IsClean (view store) → IsTrue (view store).is_open → AreNewer (view store).trees → ⊥)
    → IsTrue (state store).is_clean → HoldNoNewer wanted (image_of g first)
none_newer {g = g} old store first given ready found other clean held =
    let sure = no_doubt _ clean in
    let form =
    form_shown store (image_of g first) (shows_given old store first given found clean) held in
    elim (cases_lt this_form (version_in held.pages)) [
      | inl above ↦ absurd (other sure (ready.is_open sure) (version_in held.pages, form, above))
      | inr within ↦ within
    ]
