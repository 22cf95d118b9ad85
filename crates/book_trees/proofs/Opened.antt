-- From what the files held to what an opened store shows.
use Rattle.std.proofs.Common.{◌≡◌, ◌≢◌, List, [], Bool, true, false, true≢false, IsTrue}
use Rattle.std.proofs.Common.{if◌then◌else◌}
use Rattle.std.proofs.Common.{refl, sym, subst, ap, ◌∙◌, ◌⊎◌, inl, inr, arith}
use Rattle.std.proofs.Math.Logic.{∥∥₁_elim, ∥∥₁_map}
use Rattle.sqlite_disk.specs.declared.Disk.{Ghosts}
use Rattle.sqlite_pages.specs.PageMap.{PageMap}
use Rattle.sqlite_pool.specs.File.{in_use, IsSoundFile}
use Rattle.sqlite_pool.specs.Opening.{IsBlankFile}
use Rattle.sqlite_pool.specs.Stored.{Recovers, RecoversAs}
use Rattle.sqlite_pool.specs.StoredLaws.{recovers_once, readable, RecoversAs-from}
use Rattle.sqlite_store.specs.Db.{IsFile, rows_at}
use Rattle.sqlite_store.specs.FileStore.{state, view, schema_of, IsReady}
use Rattle.sqlite_store.specs.Listing.{file_trees, IsOurs}
use Rattle.sqlite_store.specs.Saved.{kept_schema}
use Rattle.sqlite_store.specs.Unopened.{state_of, image, wanted_by, HasFile, HasFileAs}
use Rattle.sqlite_store.specs.Unopened.{IsCatalogOf, Opens}
use Rattle.sqlite_store.specs.declared.catalog.Wanted.{Wanted}
use Rattle.sqlite_store.specs.declared.store.FileStore.{FileStore}
use Rattle.sqlite_store.specs.declared.store.open.Unopened.{Unopened}
use Rattle.sqlite_trees.proofs.Doubt.{no_doubt}
use Rattle.sqlite_trees.specs.declared.store.Shape.TheVariants.{Table}
use Rattle.sqlite_value.specs.Order.{Row}
use Rattle.sqlite_wal.specs.State.{State}
use Rattle.book_trees.proofs.BlankFiles.{blank_unsound}
use Rattle.book_trees.proofs.FormLemmas.{first_is_not_second, old_is_not_this}
use Rattle.book_trees.proofs.ListingLemmas.{books_listed, old_listed}
use Rattle.book_trees.proofs.Trees.{has_trees}
use Rattle.book_trees.specs.LedgerFiles.{page_size, HoldsBooks, HoldsOldBooks, HoldsNothing}
use Rattle.book_trees.specs.LedgerFiles.{HoldsTables, trees_held}
use Rattle.book_trees.specs.Listing.{lists_books, lists_old_books}
use Rattle.book_trees.specs.OldForms.{AreAlike, form_listed}
use Rattle.book_trees.specs.Schema.{books_schema, old_schema}
use Rattle.book_trees.specs.declared.schema.OlderForm.{OlderForm}
use Rattle.book_trees.specs.declared.schema.OlderForm.TheVariants.{First, Second}
use Rattle.book_trees.specs.StoreView.{AreLeft, IsOpen, ListsBooks, ShowsBooks}

-- an empty list of rows does not list books
none_listed : lists_books [] ≡ true → ⊥
unfolding books_schema
none_listed listed = absurd (cc)

-- a list of rows that lists books is not empty
some_listed : (rows : List Row) → lists_books rows ≡ true → rows ≢ []
some_listed rows listed none =
    none_listed (subst (λ (rows : List Row). lists_books rows ≡ true) none listed)

module _ {D : Type 0} {g : Ghosts D} (old mid : Unopened D g) (rows : List Row)
    (listed : IsCatalogOf old mid rows) (sized : (state_of old).page_size ≡ page_size) where
  -- the pages that the files recovered to at first
  pub found_old : Recovers page_size (image old) listed.pages
  found_old = subst (λ s. Recovers s (image old) listed.pages) sized listed.found

  -- and recover to again
  found_mid : Recovers page_size (image mid) listed.pages
  found_mid = subst (λ s. Recovers s (image mid) listed.pages) sized listed.again

  -- the rows are those of the pages
  pub rows_are : rows ≡ rows_at page_size (in_use page_size listed.pages) Table 1
  rows_are = subst (λ s. rows ≡ rows_at s (in_use s listed.pages) Table 1) sized listed.lists

  -- so files list books where these do
  pub lists_here : lists_books rows ≡ true → ListsBooks (image old)
  lists_here books = record {
    pages = listed.pages;
    found = found_old;
    listed = ap lists_books (sym rows_are) ∙ books;
  }

  -- the pages are those of files that are known
  same_pages : (pages : PageMap) → Recovers page_size (image old) pages → listed.pages ≡ pages
  same_pages pages found = recovers_once page_size (image old) _ _ found_old found

  -- files that hold books list them
  pub held_listed : HoldsBooks (image old) → lists_books rows ≡ true
  held_listed held =
      ap lists_books (rows_are
      ∙ ap (λ (p : PageMap). rows_at page_size (in_use page_size p) Table 1)
      (same_pages held.pages held.found)) ∙ books_listed held.pages held.file

  -- files that do not list them hold none
  pub unlisted_none : lists_books rows ≡ false → HoldsBooks (image old) → ⊥
  unlisted_none unlisted held = true≢false (sym (held_listed held) ∙ unlisted)

  -- the rows are those of the pages of files that are known
  rows_held : (pages : PageMap) → Recovers page_size (image old) pages
      → rows ≡ rows_at page_size (in_use page_size pages) Table 1
  rows_held pages found =
      rows_are ∙ ap (λ (p : PageMap). rows_at page_size (in_use page_size p) Table 1)
      (same_pages pages found)

  -- files that hold books of an older form list those
  pub held_old_listed : (form : OlderForm) → HoldsTables (old_schema form) (image old)
      → lists_old_books form rows ≡ true
  held_old_listed form held =
      ap (lists_old_books form) (rows_held held.pages held.found)
      ∙ old_listed form held.pages held.file

  -- and no books of this one,
  pub held_old_only : (form : OlderForm) → HoldsTables (old_schema form) (image old)
      → lists_books rows ≡ true → ⊥
  held_old_only form held books =
      old_is_not_this form held.pages held.file
      (sym (ap lists_books (rows_held held.pages held.found)) ∙ books)

  -- nor those of another older form
  held_form : (form : OlderForm) → HoldsTables (old_schema form) (image old)
      → (second : Bool) → lists_old_books Second rows ≡ second
      → form ≡ (if second then Second else First)
  held_form First held true is =
      absurd (first_is_not_second held.pages held.file
      (sym (ap (lists_old_books Second) (rows_held held.pages held.found)) ∙ is))
  held_form First held false is = refl
  held_form Second held true is = refl
  held_form Second held false is = absurd (true≢false (sym (held_old_listed Second held) ∙ is))

  -- so the form that they list is the one that they hold
  pub held_form_listed : (form : OlderForm) → HoldsTables (old_schema form) (image old)
      → form ≡ form_listed rows
  held_form_listed form held = held_form form held (lists_old_books Second rows) refl

  -- the files recover to the same pages then as before
  pub alike : AreAlike (image old) (image mid)
  alike = record { pages = listed.pages; found = found_old; again = found_mid }

  -- the pages are those of a sound file
  sound_pages : (state_of mid).page_size ≡ page_size → ∥ IsSoundFile page_size listed.pages ∥₁
  sound_pages size =
      subst (λ s. ∥ IsSoundFile s listed.pages ∥₁) size
      (subst (λ (p : PageMap). ∥ IsSoundFile (state_of mid).page_size p ∥₁) listed.shows.committed
      listed.shows.clean.sound)

  -- so the files hold more than a part of a first page
  never_blank : (state_of mid).page_size ≡ page_size → IsBlankFile page_size (image old) → ⊥
  never_blank size blank =
      ∥∥₁_elim (sound_pages size) (λ one other. absurd one) λ sound.
      blank_unsound (image old) listed.pages found_old sound blank

  -- files that a ledger left and that list books are those of books,
  holds_books : lists_books rows ≡ true → (state_of mid).page_size ≡ page_size
      → HoldsNothing (image old) ⊎ (HoldsBooks (image old) ⊎ HoldsOldBooks (image old))
      → HoldsBooks (image old)
  holds_books books size (inl (inl blank)) = absurd (never_blank size blank)
  holds_books books size (inl (inr none)) =
      absurd (some_listed rows books (rows_are
      ∙ ap (λ (p : PageMap). rows_at page_size (in_use page_size p) Table 1)
      (same_pages none.pages none.found) ∙ none.empty.1))
  holds_books books size (inr (inl held)) = held
  holds_books books size (inr (inr old)) = absurd (held_old_only old.form old.held books)

  -- which an open may be asked for
  pub held_file : {wanted : List Wanted} → HoldsTables wanted (image old)
      → (state_of mid).page_size ≡ page_size → wanted_by mid ≡ wanted → HasFile mid
  held_file {wanted} held size schema =
      let file : IsFile page_size wanted listed.pages =
      subst (IsFile page_size wanted) (sym (same_pages held.pages held.found)) held.file in (
        listed.pages,
        subst (λ s. Recovers s (image mid) listed.pages) (sym size) found_mid,
        subst (λ s. IsFile s (wanted_by mid) listed.pages) (sym size)
            (subst (λ (w : List Wanted). IsFile page_size w listed.pages) (sym schema) file),
      )

  -- also one that asks for the number of each tree
  pub held_ours : {wanted : List Wanted} (held : HoldsTables wanted (image old))
      → IsOurs page_size true wanted held.pages → (state_of mid).page_size ≡ page_size
      → wanted_by mid ≡ wanted → HasFileAs mid true
  held_ours {wanted} held ours size schema =
      let file : IsOurs page_size true wanted listed.pages =
      subst (IsOurs page_size true wanted) (sym (same_pages held.pages held.found)) ours in (
        listed.pages,
        subst (λ s. Recovers s (image mid) listed.pages) (sym size) found_mid,
        subst (λ s. IsOurs s true (wanted_by mid) listed.pages) (sym size)
            (subst (λ (w : List Wanted). IsOurs page_size true w listed.pages) (sym schema) file),
      )

  -- and one that trusts them
  pub has_file : lists_books rows ≡ true → AreLeft (image old)
      → (state_of mid).page_size ≡ page_size → wanted_by mid ≡ books_schema → HasFile mid
  has_file books left size schema =
      held_file (holds_books books size (left.left (lists_here books))) size schema

  -- what is then committed are the pages that were listed,
  pub committed_listed : (pages : PageMap) → (state_of mid).page_size ≡ page_size
      → Recovers (state_of mid).page_size (image mid) pages → pages ≡ listed.pages
  committed_listed pages size found =
      recovers_once page_size (image mid) _ _
      (subst (λ s. Recovers s (image mid) pages) size found) found_mid

  -- which are those of the tables
  pub committed_is : {wanted : List Wanted} (held : HoldsTables wanted (image old)) (pages : PageMap)
      → (state_of mid).page_size ≡ page_size
      → Recovers (state_of mid).page_size (image mid) pages → pages ≡ held.pages
  committed_is held pages size found =
      committed_listed pages size found ∙ same_pages held.pages held.found

  -- two opens, one after the other, leave what the first could leave
  pub opens_twice : (end : State) → Opens old (state_of mid) → Opens mid end → Opens old end
  opens_twice end first second = record {
    size = second.size ∙ first.size;
    counts = omega (arith, first.counts, second.counts);
    crash = λ left may. elim ((second.crash left may).same) [
      | inl was ↦ first.crash left was
      | inr same ↦ record {
        same = inr (λ stored was. subst (λ s. RecoversAs s (image mid) left) first.size same stored
            (RecoversAs-from (state_of old).page_size (image old) (image mid) listed.pages
            listed.found listed.again stored was));
        unread = λ unreadable. absurd (readable (state_of old).page_size (image old) listed.pages
            listed.found unreadable);
      }
    ];
  }

module _ {wanted : List Wanted} {D : Type 0} {g : Ghosts D} (store : FileStore D g) where
  -- a store that was just opened shows the tables of its pages
  pub shows_tables : IsReady store → schema_of store ≡ wanted
      → (state store).page_size ≡ page_size → IsTrue (state store).is_clean
      → (pages : PageMap) → (state store).committed ≡ pages
      → (view store).trees ≡ file_trees page_size wanted pages
  shows_tables ready schema size clean pages same =
      let kept = kept_schema store.saved (schema_of store) in
      let whole : (view store).committed
      ≡ file_trees (state store).page_size kept (state store).committed = rw clean refl in
      let plain : kept ≡ wanted =
      ap (λ s. kept_schema s (schema_of store)) ready.unaltered ∙ schema in
      ready.clean ∙ whole
      ∙ ap (λ s. file_trees s kept (state store).committed) size
      ∙ ap (λ (w : List Wanted). file_trees page_size w (state store).committed) plain
      ∙ ap (file_trees page_size wanted) same

  -- and these are those of a sound file
  pub sound_tables : IsReady store → schema_of store ≡ wanted
      → (state store).page_size ≡ page_size → IsTrue (state store).is_clean
      → (pages : PageMap) → (state store).committed ≡ pages → ∥ IsFile page_size wanted pages ∥₁
  sound_tables ready schema size clean pages same =
      let kept = kept_schema store.saved (schema_of store) in
      let plain : kept ≡ wanted =
      ap (λ s. kept_schema s (schema_of store)) ready.unaltered ∙ schema in
      ∥∥₁_map (store.stored (ready.is_open (no_doubt _ clean))) λ stored.
      subst (IsFile page_size wanted) same
      (subst (λ (w : List Wanted). IsFile page_size w (state store).committed) plain
      (subst (λ s. IsFile s kept (state store).committed) size stored.ours.file))

-- a store that is ready and has the schema of books is open over books
pub is_open : {D : Type 0} {g : Ghosts D} (store : FileStore D g) → IsReady store
    → schema_of store ≡ books_schema
    → (IsTrue (state store).is_clean → (state store).page_size ≡ page_size) → IsOpen store
is_open store ready schema size = record {
  ready = ready;
  schema = schema;
  trees = has_trees store schema ready.unaltered;
  size = size;
}

-- one that was opened on files whose list was read first shows the tables that they hold
pub shows_held : {wanted : List Wanted} {D : Type 0} {g : Ghosts D} (old mid : Unopened D g)
    (rows : List Row) → IsCatalogOf old mid rows → (state_of old).page_size ≡ page_size
    → (store : FileStore D g) → IsReady store → schema_of store ≡ wanted
    → Opens old (state_of mid) → Opens mid (state store) → IsTrue (state store).is_clean
    → Recovers (state_of mid).page_size (image mid) (state store).committed
    → (held : HoldsTables wanted (image old)) → (view store).trees ≡ trees_held held
shows_held old mid rows listed sized store ready schema first second clean found held =
    let size : (state_of mid).page_size ≡ page_size = first.size ∙ sized in
    shows_tables store ready schema (second.size ∙ size) clean held.pages
    (committed_is old mid rows listed sized held (state store).committed size found)

-- and so they hold such tables
pub holds_shown : {wanted : List Wanted} {D : Type 0} {g : Ghosts D} (old mid : Unopened D g)
    (rows : List Row) → IsCatalogOf old mid rows → (state_of old).page_size ≡ page_size
    → (store : FileStore D g) → IsReady store → schema_of store ≡ wanted
    → Opens old (state_of mid) → Opens mid (state store) → IsTrue (state store).is_clean
    → Recovers (state_of mid).page_size (image mid) (state store).committed
    → ∥ HoldsTables wanted (image old) ∥₁
holds_shown old mid rows listed sized store ready schema first second clean found =
    let size : (state_of mid).page_size ≡ page_size = first.size ∙ sized in
    ∥∥₁_map (sound_tables store ready schema (second.size ∙ size) clean listed.pages
    (committed_listed old mid rows listed sized (state store).committed size found)) λ file. record {
      pages = listed.pages;
      found = found_old old mid rows listed sized;
      file = file;
    }

-- one that was opened on files that list books shows what these list
pub shows_listed : {D : Type 0} {g : Ghosts D} (old mid : Unopened D g) (rows : List Row)
    → IsCatalogOf old mid rows → (state_of old).page_size ≡ page_size → lists_books rows ≡ true
    → (store : FileStore D g) → IsReady store → schema_of store ≡ books_schema
    → Opens old (state_of mid) → Opens mid (state store) → IsTrue (state store).is_clean
    → Recovers (state_of mid).page_size (image mid) (state store).committed
    → ShowsBooks (image old) store
shows_listed old mid rows listed sized books store ready schema first second clean found =
    let size : (state_of mid).page_size ≡ page_size = first.size ∙ sized in
    let same = committed_listed old mid rows listed sized (state store).committed size found in
    record {
      lists = record {
        pages = listed.pages;
        found = found_old old mid rows listed sized;
        listed = ap lists_books (sym (rows_are old mid rows listed sized)) ∙ books;
      };
      trees = shows_tables store ready schema (second.size ∙ size) clean listed.pages same;
    }
