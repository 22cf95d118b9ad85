-- The words and lemmas that most proofs of this crate cite, from one place. Declares nothing.
pub use Rattle.sqlite_disk.specs.declared.Disk.{Ghosts}
pub use Rattle.sqlite_disk.specs.declared.files.Files.{Files}
pub use Rattle.sqlite_store.specs.FileStore.{IsReady, state, view}
pub use Rattle.sqlite_store.specs.declared.store.FileStore.{FileStore}
pub use Rattle.sqlite_trees.proofs.Doubt.{clean_of, no_doubt}
pub use Rattle.sqlite_trees.specs.Tree.{Trees}
pub use Rattle.sqlite_trees.specs.View.{IsClean}
pub use Rattle.sqlite_wal.specs.Reads.{AreClean}
pub use Rattle.sqlite_wal.specs.Recovery.{Image}
pub use Rattle.std.proofs.Math.Logic.{∥∥₁_elim, ∥∥₁_map, ∥∥₁_prop}
pub use Rattle.named_books.specs.declared.repository.RepositoryFault.{RepositoryFault}
pub use Rattle.tree_tables.specs.Holds.{HasShapes, has_book}
pub use Rattle.book_trees.specs.Forms.{HoldsThisForm}
pub use Rattle.book_trees.specs.LedgerFiles.{HoldsBooks, trees_held}
pub use Rattle.book_trees.specs.Refusals.{IsRefusedWithout}
pub use Rattle.book_trees.specs.Schema.{books_schema}
pub use Rattle.book_trees.specs.declared.closing.Closed.{Closed}
pub use Rattle.table_ledger.specs.Ready.{IsStoredIn}
pub use Rattle.book_restarts.specs.FileBooks.{file_names}
pub use Rattle.book_sessions.specs.Causes.{HasFaultCause}
pub use Rattle.book_sessions.specs.Openings.{AreLeftAsFound}
pub use Rattle.book_sessions.specs.Sessions.{MayFollow}
pub use Rattle.book_sessions.specs.Unused.{are_unused}
