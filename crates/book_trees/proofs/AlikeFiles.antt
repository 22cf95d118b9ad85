-- Files that recover to the same pages as others hold the same tables.
use Rattle.std.proofs.Common.{◌≡◌, ◌∙◌, List, ap, inl, inr, subst, sym, true}
use Rattle.sqlite_disk.specs.declared.Disk.{Ghosts}
use Rattle.sqlite_disk.specs.declared.files.Files.{Files}
use Rattle.sqlite_pages.specs.PageMap.{PageMap}
use Rattle.sqlite_pool.specs.Stored.{Recovers}
use Rattle.sqlite_pool.specs.StoredLaws.{recovers_once, readable, RecoversAs-from}
use Rattle.sqlite_store.specs.Db.{IsFile}
use Rattle.sqlite_store.specs.FileStore.{view}
use Rattle.sqlite_store.specs.Listing.{IsOurs, file_trees}
use Rattle.sqlite_store.specs.Unopened.{HasSomeFile, image, state_of}
use Rattle.sqlite_store.specs.declared.catalog.Wanted.{Wanted}
use Rattle.sqlite_store.specs.declared.store.FileStore.{FileStore}
use Rattle.sqlite_store.specs.declared.store.open.Unopened.{Unopened}
use Rattle.sqlite_wal.specs.Recovery.{Image}
use Rattle.book_trees.specs.Forms.{HoldNoNewer}
use Rattle.book_trees.specs.LedgerFiles.{HoldsOldBooks, HoldsTables, image_of, old_trees, page_size}
use Rattle.book_trees.specs.LedgerFiles.{trees_held}
use Rattle.book_trees.specs.OldForms.{AreAlike, HoldsForm, HoldsOldForm, HoldsSome, OldNoNewer}
use Rattle.book_trees.specs.Refusals.{AreKept}
use Rattle.book_trees.specs.Schema.{old_schema}
use Rattle.book_trees.specs.StoreView.{ListsBooks}
use Rattle.book_trees.specs.declared.schema.OlderForm.{OlderForm}

module _ (one other : Image) (alike : AreAlike one other) where
  -- what one recovers to the other does, and the other way round
  on : (pages : PageMap) → Recovers page_size one pages → Recovers page_size other pages
  on pages found = subst (Recovers page_size other)
      (recovers_once page_size one _ _ alike.found found) alike.again

  back : (pages : PageMap) → Recovers page_size other pages → Recovers page_size one pages
  back pages found = subst (Recovers page_size one)
      (recovers_once page_size other _ _ alike.again found) alike.found

  -- so both hold the same tables,
  pub tables_on : {schema : List Wanted} → HoldsTables schema one → HoldsTables schema other
  tables_on held =
      record { pages = held.pages; found = on held.pages held.found; file = held.file }

  pub tables_back : {schema : List Wanted} → HoldsTables schema other → HoldsTables schema one
  tables_back held =
      record { pages = held.pages; found = back held.pages held.found; file = held.file }

  -- and list the same
  pub lists_back : ListsBooks other → ListsBooks one
  lists_back lists =
      record { pages = lists.pages; found = back lists.pages lists.found; listed = lists.listed }

  -- Of an older form the first hold no other books.
  module _ (form : OlderForm) (only : (old : HoldsOldBooks one) → old.form ≡ form) where
    -- the others hold those
    old_on : (old : HoldsOldBooks one) → HoldsTables (old_schema form) other
    old_on old = record {
      pages = old.held.pages;
      found = on old.held.pages old.held.found;
      file = subst (λ (form : OlderForm). IsFile page_size (old_schema form) old.held.pages)
          (only old) old.held.file;
    }

    -- so a store that shows the tables of the others shows those of the first,
    pub shown_so : {D : Type 0} {g : Ghosts D} (store : FileStore D g)
        → ((held : HoldsTables (old_schema form) other) → (view store).trees ≡ trees_held held)
        → (old : HoldsOldBooks one) → (view store).trees ≡ old_trees old
    unfolding old_on
    shown_so store shows old =
        shows (old_on old)
        ∙ ap (λ (form : OlderForm). file_trees page_size (old_schema form) old.held.pages)
        (sym (only old))

    -- where the others do not say that they are of a newer form, neither do the first,
    pub none_newer_so : HoldNoNewer (old_schema form) other → OldNoNewer one
    unfolding old_on
    none_newer_so within older held = within (old_on (record { form = older; held = held }))

    -- and where the first are as a ledger leaves them, so are the others
    pub form_on : HoldsOldForm one → HoldsForm form other
    unfolding old_on
    form_on old =
        let own : HoldsOldBooks one = record { form = old.form; held = old.own.held } in
        record {
          held = old_on own;
          numbered = subst (λ (form : OlderForm).
              IsOurs page_size true (old_schema form) old.own.held.pages) (only own) old.own.numbered;
          within = old.own.within;
        }

-- files that hold tables hold some of a database
pub some_file : {D : Type 0} {g : Ghosts D} (it : Unopened D g) → (state_of it).page_size ≡ page_size
    → HoldsSome (image it) → HasSomeFile it
some_file it size some = (
  some.1.pages,
  subst (λ s. Recovers s (image it) some.1.pages) (sym size) some.1.found,
  (some.0, subst (λ s. IsFile s some.0 some.1.pages) (sym size) some.1.file),
)

-- what is kept of files that are kept, and recover to the same pages, is kept of the first
pub kept_on : {D : Type 0} {g : Ghosts D} (first mid last : Files D)
    → AreAlike (image_of g first) (image_of g mid) → AreKept g first mid → AreKept g mid last
    → AreKept g first last
kept_on {g = g} first mid last alike one two = record {
  crash = λ left may. elim (two.crash left may) [
    | inl was ↦ one.crash left was
    | inr same ↦ inr (λ stored was. same stored
        (RecoversAs-from page_size (image_of g first) (image_of g mid) alike.pages alike.found
        alike.again stored was))
  ];
  unread = λ unreadable.
      absurd (readable page_size (image_of g first) alike.pages alike.found unreadable);
}
