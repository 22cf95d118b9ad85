-- What a ledger leaves of its two files.
use Rattle.std.specs.Prelude.{◌≡◌, ◌⊎◌, ◌+◌, ◌<◌, ◌^◌, [], List, length, ℕ}
use Rattle.sqlite_disk.specs.declared.Disk.{Ghosts}
use Rattle.sqlite_disk.specs.declared.files.Files.{Files}
use Rattle.sqlite_pages.specs.PageMap.{PageMap}
use Rattle.sqlite_pool.specs.Opening.{IsBlankFile}
use Rattle.sqlite_pool.specs.Stored.{Recovers}
use Rattle.sqlite_store.specs.Db.{IsFile}
use Rattle.sqlite_store.specs.Listing.{file_trees}
use Rattle.sqlite_store.specs.Opening.{IsEmptyFile}
use Rattle.sqlite_store.specs.declared.catalog.Wanted.{Wanted}
use Rattle.sqlite_trees.specs.Tree.{Trees}
use Rattle.sqlite_wal.specs.Files.{seen_image}
use Rattle.sqlite_wal.specs.Recovery.{Image, Replays}
use Rattle.book_trees.specs.Schema.{books_schema, old_schema}
use Rattle.book_trees.specs.declared.schema.OlderForm.{OlderForm}

-- what reads of two files return
abbrev pub image_of : {D : Type 0} → Ghosts D → Files D → Image
image_of g files = seen_image g files.log files.db

-- the size of a page
abbrev pub page_size : ℕ
page_size = 4096

-- the files recover to a sound file of these tables and indexes
pub record HoldsTables (schema : List Wanted) (image : Image) : Type 0 where
  pub pages : PageMap
  pub found : Recovers page_size image pages
  pub file : IsFile page_size schema pages

-- those of books
abbrev pub HoldsBooks : Image → Type 0
HoldsBooks = HoldsTables books_schema

-- those of books of an older form
pub record HoldsOldBooks (image : Image) : Type 0 where
  pub form : OlderForm
  pub held : HoldsTables (old_schema form) image

-- the tables that it holds
abbrev pub trees_held : {schema : List Wanted} {image : Image} → HoldsTables schema image → Trees
trees_held {schema} held = file_trees page_size schema held.pages

abbrev pub old_trees : {image : Image} → HoldsOldBooks image → Trees
old_trees old = trees_held old.held

-- the files recover to a sound file of some tables, whatever these are called, in pages of some size
pub record HoldsFile (image : Image) : Type 0 where
  pub size : ℕ
  pub schema : List Wanted
  pub pages : PageMap
  pub found : Recovers size image pages
  pub file : IsFile size schema pages

-- the rows of its tables
abbrev pub rows_held : {image : Image} → HoldsFile image → Trees
rows_held held = file_trees held.size held.schema held.pages

-- a database that was begun, and has no table yet
pub record HoldsNone (image : Image) : Type 0 where
  pub pages : PageMap
  pub found : Recovers page_size image pages
  pub empty : IsEmptyFile page_size pages

-- the files hold no database, or one that was begun and has no table
abbrev pub HoldsNothing : Image → Type 0
HoldsNothing image = IsBlankFile page_size image ⊎ HoldsNone image

-- no table has a row
abbrev pub AreEmptyTables : Trees → Type 0
AreEmptyTables trees = (tree : ℕ) → tree < 2 ^ 32 → trees tree ≡ []

-- the files hold books whose tables have no row
pub record HoldsEmptyBooks (image : Image) : Type 0 where
  pub held : HoldsBooks image
  pub empty : AreEmptyTables (trees_held held)

-- A log with no room for its header and that of a page is passed over.
abbrev pub shortest_log : ℕ
shortest_log = 32 + 24

-- the file, with no log to go with it
abbrev pub without_log : Image → Image
without_log image = record { log = []; db = image.db }

-- the file alone, with no log to go with it, holds whatever tables the two hold
abbrev pub HoldsAlone : Image → Type 0
HoldsAlone image =
    (wanted : List Wanted) (held : HoldsTables wanted image)
    → (alone : HoldsTables wanted (without_log image)) × (trees_held alone ≡ trees_held held)

-- what a close leaves of a log: its header, and what shuts it behind that
abbrev pub closed_log : ℕ
closed_log = 32 + 9

-- A log is longer than that, and recovery takes none of its frames.
abbrev pub IsUnused : List ℕ → Type 0
IsUnused log = (closed_log < length log) × Replays page_size log 0
