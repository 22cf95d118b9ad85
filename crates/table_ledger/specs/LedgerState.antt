-- What can be seen of a ledger in trees.
use Rattle.std.specs.Prelude.{◌≡◌, Bool, false}
use Rattle.sqlite_trees.specs.Tree.{Trees}
use Rattle.sqlite_trees.specs.View.{View, IsClean}
use Rattle.book_model.specs.Words.{Book, Naming}
use Rattle.book_core.specs.Ledgers.{Seen}
use Rattle.table_model.specs.BookIn.{book_in}
use Rattle.sqlite_trees.specs.declared.store.Store.{Ghosts}
use Rattle.tree_tables.specs.States.{State, state}
use Rattle.table_ledger.specs.TablesIn.{tables_in}
use Rattle.table_ledger.specs.Ready.{IsReady, StoreSomeBook}
use Rattle.table_ledger.specs.declared.ledger.TableLedger.{TableLedger}
use Rattle.table_ledger.specs.declared.summary.Summary.{Summary}

-- what a ledger in trees has on its shelf: how it names records, what its store shows, whether it
-- is to be reopened, and what it remembers of its book
pub record LedgerState : Type 1 where
  pub naming : Naming
  pub state : State
  pub must_reopen : Bool
  pub summary : Summary

-- the state of a ledger on a store
abbrev pub state_on : {S : Type 0} → Ghosts S → Naming → S → Bool → Summary → LedgerState
state_on ghosts naming store must_reopen summary = record {
  naming = naming;
  state = state ghosts store;
  must_reopen = must_reopen;
  summary = summary;
}

-- a ledger's own, by what its store shows and how it names records
abbrev pub ledger_state : {S N : Type 0} {ghosts : Ghosts S} → (N → Naming)
    → TableLedger S N ghosts → LedgerState
ledger_state {ghosts = ghosts} name_of ledger =
    state_on ghosts (name_of ledger.naming) ledger.tables.store ledger.must_reopen ledger.summary

-- the book that trees determine
abbrev pub book_of_trees : Trees → Book
book_of_trees trees = book_in (tables_in trees)

-- a book that the next open may find, from the trees that a stop may leave
abbrev pub MayFind : (Trees → Type 0) → Book → Type 0
MayFind may_leave book = (trees : Trees) × may_leave trees × (book ≡ book_of_trees trees)

-- A ledger wrote what is stored there, or could have: whatever a stop may leave are books that can be
-- read back; and the ledger is ready, unless it is to be reopened.
pub record AreBooks (naming : Naming) (view : View) (may_leave : Trees → Type 0)
    (must_reopen : Bool) (summary : Summary) : Type 0 where
  pub left : IsClean view → (trees : Trees) → may_leave trees → StoreSomeBook naming trees
  pub ready : must_reopen ≡ false → IsClean view → IsReady naming summary view

-- what can be seen of such a ledger
abbrev pub seen_of : Naming → View → (Trees → Type 0) → Bool → Summary → Seen
seen_of naming view may_leave must_reopen summary = record {
  book = book_of_trees view.trees;
  naming = naming;
  left = MayFind may_leave;
  must_reopen = must_reopen;
  is_honest = IsClean view;
  is_books = AreBooks naming view may_leave must_reopen summary;
}

abbrev pub seen_on : LedgerState → Seen
seen_on shelf =
    seen_of shelf.naming shelf.state.view shelf.state.may_leave shelf.must_reopen shelf.summary

abbrev pub seen_in : {S N : Type 0} {ghosts : Ghosts S} → (N → Naming) → TableLedger S N ghosts
    → Seen
seen_in name_of ledger = seen_on (ledger_state name_of ledger)
