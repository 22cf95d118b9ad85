-- A ledger in trees that is ready: its store keeps a book that can be read back, as those are that
-- calls made, and it remembers that book.
use Rattle.std.specs.Prelude.{◌≡◌, length}
use Rattle.sqlite_trees.specs.Tree.{Trees}
use Rattle.sqlite_trees.specs.View.{View}
use Rattle.book_model.specs.Words.{total_of, Book, Naming, Rulings, members, no_rulings}
use Rattle.table_model.specs.Words.{tables_of, IsReadable, Tables}
use Rattle.table_model.specs.Journaled.{IsJournaled}
use Rattle.tree_tables.specs.Holds.{Holds}
use Rattle.table_ledger.specs.Commits.{IsAtRest}
use Rattle.book_core.specs.Words.{ruled_in}
use Rattle.table_ledger.specs.declared.summary.Summary.{Summary}

-- of some rulings the tariffs, the closes and the rule of identity
abbrev pub without_lists : Rulings → Rulings
without_lists rulings = record no_rulings {
  tariffs = rulings.tariffs;
  closes = rulings.closes;
  adopted = rulings.adopted;
}

-- It is a summary of the book: its rulings, but for its choices, what was replaced and its credits,
-- of which it has the counts; and its sums.
pub record Remembers (summary : Summary) (book : Book) : Type 0 where
  pub rulings : ruled_in summary.rulings ≡ without_lists book.rulings
  pub choices : summary.choices ≡ length book.rulings.choices
  pub replaced : summary.replaced ≡ length book.rulings.replaced
  pub credits : summary.credits ≡ length book.rulings.credits
  pub held : summary.held ≡ length (members book.held)
  pub total : summary.total ≡ total_of book.rulings book.held

-- the trees hold the tables of the book, which can be read back, its journal too, as they are when
-- only so much of them is written
pub record IsStoredAs (written : Tables → Tables) (naming : Naming) (book : Book) (trees : Trees)
    : Type 0 where
  pub readable : IsReadable naming book
  pub journaled : IsJournaled book
  pub holds : Holds trees (written (tables_of naming book))

-- all of them
abbrev pub IsStoredIn : Naming → Book → Trees → Type 0
IsStoredIn = IsStoredAs (λ tables. tables)

-- this holds for some book
pub record StoreSomeBook (naming : Naming) (trees : Trees) : Type 0 where
  pub book : Book
  pub kept : IsStoredIn naming book trees

-- The store is open between two transactions, and keeps the book, which can be read back; and the
-- summary is that of the book.
pub record IsReadyAt (naming : Naming) (summary : Summary) (view : View) (book : Book) : Type 0
  where
    pub rest : IsAtRest view
    pub kept : IsStoredIn naming book view.trees
    pub remembers : Remembers summary book

-- this holds for some book
pub record IsReady (naming : Naming) (summary : Summary) (view : View) : Type 0 where
  pub book : Book
  pub ready : IsReadyAt naming summary view book
