-- What a store over tables leaves.
use Rattle.std.proofs.Common.{◌≡◌, IsTrue, List, None, sym, ap, subst, ◌∙◌}
use Rattle.std.proofs.Math.Logic.{∥∥₁_elim, ∥∥₁_map, ∥∥₁_prop}
use Rattle.sqlite_disk.specs.declared.Disk.{Ghosts}
use Rattle.sqlite_pages.specs.PageMap.{PageMap}
use Rattle.sqlite_pool.specs.Stored.{Recovers}
use Rattle.sqlite_pool.specs.StoredLaws.{recovers_once}
use Rattle.sqlite_store.proofs.FileLemmas.{every_image, one_schema}
use Rattle.sqlite_store.specs.Db.{IsFile}
use Rattle.sqlite_store.specs.FileStore.{state, schema_of, schema_in, reading, recovers}
use Rattle.sqlite_store.specs.Listing.{file_trees}
use Rattle.sqlite_store.specs.declared.catalog.Wanted.{Wanted}
use Rattle.sqlite_store.specs.declared.store.FileStore.{FileStore}
use Rattle.sqlite_trees.specs.Tree.{Trees}
use Rattle.sqlite_wal.specs.Recovery.{Image}
use Rattle.book_trees.proofs.FileParts.{clean_if_left}
use Rattle.book_trees.specs.LedgerFiles.{page_size, HoldsFile, HoldsTables, rows_held, trees_held}

-- what a stop may leave of any store is a sound file, whose rows it counts among its outcomes
pub rows_by : {D : Type 0} {g : Ghosts D} (it : FileStore D g) (image : Image)
    → (state it).may_leave image → ∥ ((file : HoldsFile image) × recovers it (rows_held file)) ∥₁
rows_by it image may =
    ∥∥₁_elim (every_image it image may) ∥∥₁_prop λ all.
    ∥∥₁_map all.2 λ file. (
      record {
        size = (state it).page_size;
        schema = schema_in it all.0;
        pages = all.0;
        found = all.1;
        file = file;
      },
      all.3,
    )

module _ {wanted : List Wanted} {D : Type 0} {g : Ghosts D} (it : FileStore D g)
    (schema : schema_of it ≡ wanted)
    (size : IsTrue (state it).is_clean → (state it).page_size ≡ page_size)
    (unaltered : it.saved ≡ None) where
  -- the page size, where a stop may leave something
  sized : (left : Image) → (state it).may_leave left → (state it).page_size ≡ page_size
  sized left may = size (clean_if_left it.pool left may)

  -- the schema of all pages
  schema_here : (pages : PageMap) → schema_in it pages ≡ wanted
  schema_here pages = one_schema it unaltered pages ∙ schema

  -- the tables that pages read as
  reads : (pages : PageMap) → (state it).page_size ≡ page_size
      → reading it pages ≡ file_trees page_size wanted pages
  reads pages sized_here =
      ap (λ s. file_trees s (schema_in it pages) pages) sized_here
      ∙ ap (λ (w : List Wanted). file_trees page_size w pages) (schema_here pages)

  -- a sound file is one of these tables
  held_at : (image : Image) (pages : PageMap) → (state it).page_size ≡ page_size
      → Recovers (state it).page_size image pages
      → IsFile (state it).page_size (schema_in it pages) pages → HoldsTables wanted image
  held_at image pages sized_here found file = record {
    pages = pages;
    found = subst (λ s. Recovers s image pages) sized_here found;
    file = subst (λ (w : List Wanted). IsFile page_size w pages) (schema_here pages)
        (subst (λ s. IsFile s (schema_in it pages) pages) sized_here file);
  }

  -- what a stop may leave holds these tables, as the store counts them
  pub left_by : (image : Image) → (state it).may_leave image
      → ∥ ((held : HoldsTables wanted image) × recovers it (trees_held held)) ∥₁
  unfolding held_at
  left_by image may =
      ∥∥₁_elim (every_image it image may) ∥∥₁_prop λ all.
      ∥∥₁_map all.2 λ file. (
        held_at image all.0 (sized image may) all.1 file,
        subst (recovers it) (reads all.0 (sized image may)) all.3,
      )

  -- and each outcome is what some such files hold
  pub each_found : (db : Trees) → recovers it db
      → ∥ ((image : Image) × (held : HoldsTables wanted image) × (state it).may_leave image
      × (trees_held held ≡ db)) ∥₁
  unfolding held_at
  each_found db outcome =
      let image = outcome.0 in
      let here = sized image outcome.2 in
      ∥∥₁_elim (every_image it image outcome.2) ∥∥₁_prop λ all.
      ∥∥₁_elim outcome.3 ∥∥₁_prop λ found.
      ∥∥₁_map all.2 λ file.
      let same : all.0 ≡ outcome.1 = recovers_once _ image _ _ all.1 found in (
        image,
        held_at image all.0 here all.1 file,
        outcome.2,
        sym (reads all.0 here) ∙ ap (reading it) same ∙ sym outcome.4,
      )
