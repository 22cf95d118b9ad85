-- Trees that hold a book.
use Rattle.sha2.specs.Sha256.{sha256}
use Rattle.sqlite_trees.specs.Tree.{Trees}
use Rattle.book_model.specs.Words.{Book, Naming}
use Rattle.table_model.specs.Journaled.{IsJournaled}
use Rattle.table_model.specs.Words.{IsReadable, tables_of}
use Rattle.tree_tables.specs.Holds.{Holds}
use Rattle.book_audit.specs.Counts.{AreCountsOf}
use Rattle.book_audit.specs.declared.audited.Counts.{Counts}

-- records are named by the SHA-256 of their data
abbrev pub sha_names : Naming
sha_names = sha256

-- The trees hold the tables of a book that can be read back, and so can its journal; and these are
-- its counts.
pub record AreOfBook (naming : Naming) (trees : Trees) (counts : Counts) : Type 0 where
  pub book : Book
  pub readable : IsReadable naming book
  pub journaled : IsJournaled book
  pub holds : Holds trees (tables_of naming book)
  pub counted : AreCountsOf book counts
