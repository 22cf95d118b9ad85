-- What files list, and what a store is and shows that was opened on files.
use Rattle.std.specs.Prelude.{◌≡◌, ◌⊎◌, IsTrue, List, true}
use Rattle.sqlite_disk.specs.declared.Disk.{Ghosts}
use Rattle.sqlite_pages.specs.PageMap.{PageMap}
use Rattle.sqlite_pool.specs.File.{in_use}
use Rattle.sqlite_pool.specs.Stored.{Recovers}
use Rattle.sqlite_store.specs.Db.{rows_at}
use Rattle.sqlite_store.specs.FileStore.{state, view, schema_of, IsReady}
use Rattle.sqlite_store.specs.Listing.{file_trees}
use Rattle.sqlite_store.specs.declared.catalog.Wanted.{Wanted}
use Rattle.sqlite_store.specs.declared.store.FileStore.{FileStore}
use Rattle.sqlite_trees.specs.View.{View}
use Rattle.sqlite_trees.specs.declared.store.Shape.TheVariants.{Table}
use Rattle.sqlite_wal.specs.Recovery.{Image}
use Rattle.book_trees.specs.LedgerFiles.{HoldsBooks, HoldsOldBooks, HoldsNothing, page_size}
use Rattle.book_trees.specs.Listing.{lists_books}
use Rattle.book_trees.specs.Schema.{books_schema}
use Rattle.tree_tables.specs.Holds.{HasShapes}

-- A store is ready, over these tables and indexes, with trees of these shapes, in pages of the size
-- that books have.
pub record IsOpenAs (wanted : List Wanted) (AreShaped : View → Type 0) {D : Type 0} {g : Ghosts D}
    (store : FileStore D g) : Type 0 where
  pub ready : IsReady store
  pub schema : schema_of store ≡ wanted
  pub trees : AreShaped (view store)
  pub size : IsTrue (state store).is_clean → (state store).page_size ≡ page_size

-- it is one of books
abbrev pub IsOpen : {D : Type 0} {g : Ghosts D} → FileStore D g → Type 0
IsOpen store = IsOpenAs books_schema HasShapes store

-- the files recover to pages that list the tables of books
pub record ListsBooks (image : Image) : Type 0 where
  pub pages : PageMap
  pub found : Recovers page_size image pages
  pub listed : lists_books (rows_at page_size (in_use page_size pages) Table 1) ≡ true

-- If the files list the tables of books, a ledger left them: they hold nothing yet, or books of this
-- form or of an older one. Nothing is asked of other files, which are another program's, or damaged.
pub record AreLeft (image : Image) : Type 0 where
  pub left : ListsBooks image
      → HoldsNothing image ⊎ (HoldsBooks image ⊎ HoldsOldBooks image)

-- and the store shows these tables
pub record ShowsBooks {D : Type 0} {g : Ghosts D} (image : Image) (store : FileStore D g) : Type 0 where
  pub lists : ListsBooks image
  pub trees : (view store).trees ≡ file_trees page_size books_schema lists.pages
