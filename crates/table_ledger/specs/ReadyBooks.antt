-- A ledger that is ready determines its book, and so does what a crash leaves of it.
use Rattle.std.specs.Prelude.{◌≡◌, ◌++◌, ◌∷◌, [], ℕ, zero, suc, Bool, IsTrue, length, refl}
use Rattle.std.proofs.Common.{◌∙◌, sym, ap}
use Rattle.sqlite_trees.specs.Tree.{Trees}
use Rattle.sqlite_trees.specs.View.{View, IsClean}
use Rattle.book_model.specs.Std.{empty, values}
use Rattle.book_model.specs.Words.{Book, Naming, Period, Records}
use Rattle.book_core.specs.Ledgers.{StopIsHarmless}
use Rattle.table_model.specs.Tables.{CameTable}
use Rattle.table_model.specs.Words.{CountedTable, Tables, tables_of, book_in, charged_before}
use Rattle.table_model.specs.Words.{close_after, past_in, period_in, records_of_rows}
use Rattle.table_model.proofs.BookLemmas.{book_follows}
use Rattle.table_ledger.specs.Ready.{IsReadyAt, IsStoredIn}
use Rattle.table_ledger.specs.LedgerState.{book_of_trees, AreBooks, seen_of}
use Rattle.table_ledger.specs.CameNames.{among_all}
use Rattle.table_ledger.specs.TablesRead.{came_among, tables_read}
use Rattle.table_ledger.specs.declared.summary.Summary.{Summary}

-- the book that tables determine does not depend on which names are counted; and but for its
-- journal on by which entries records came
past_alike : (counted : CountedTable) (came : CameTable) (tables : Tables) (k : ℕ)
    (charged : Records)
    → past_in k charged (record tables { counted = counted; came = came })
    ≡ past_in k charged (record tables { came = came })
past_alike counted came tables zero charged = refl
past_alike counted came tables (suc k) charged =
    let period : Period = period_in (suc k) (close_after k (values tables.closes)) charged tables in
    ap (λ past. past ++ period ∷ [])
    (past_alike counted came tables k (charged_before period charged))

book_alike : (counted : CountedTable) (came : CameTable) (tables : Tables)
    → book_in (record tables { counted = counted; came = came })
    ≡ book_in (record tables { came = came })
book_alike counted came tables = λ i. record (book_in (record tables { came = came })) {
  past = past_alike counted came tables (length (values tables.closes))
      (records_of_rows (λ row. row.posted) tables.records) i;
}

-- trees that hold a book determine it
pub book_of_stored : {naming : Naming} {book : Book} {trees : Trees} → IsStoredIn naming book trees
    → book_of_trees trees ≡ book
book_of_stored {naming} {book} {trees} kept =
    ap book_in (tables_read trees (tables_of naming book) kept.holds)
    ∙ book_alike empty (came_among (tables_of naming book)) (tables_of naming book)
    ∙ ap (λ came. book_in (record (tables_of naming book) { came = came }))
    (among_all naming book kept.readable.sound kept.journaled)
    ∙ book_follows naming book kept.readable kept.journaled

-- what a ledger that is ready shows determines its book
pub book_of_ready : {naming : Naming} {summary : Summary} {view : View} {book : Book}
    → IsReadyAt naming summary view book → book_of_trees view.trees ≡ book
book_of_ready ready = book_of_stored ready.kept

-- while it is open, a crash leaves only the last commit,
abbrev pub LeavesTheLast : View → (Trees → Type 0) → Type 0
LeavesTheLast view may_leave =
    (trees : Trees) → IsTrue view.is_open → may_leave trees → trees ≡ view.committed

-- so what a crash leaves of a ledger that is ready determines its book
pub book_of_left : {naming : Naming} {summary : Summary} {book : Book} (view : View)
    (may_leave : Trees → Type 0) → LeavesTheLast view may_leave
    → IsReadyAt naming summary view book → (trees : Trees) → may_leave trees
    → book_of_trees trees ≡ book
book_of_left view may_leave last ready trees left =
    ap book_of_trees (last trees ready.rest.is_open left ∙ sym ready.rest.settled) ∙ book_of_ready ready

-- an open ledger can leave only its own book
pub settled_on : (naming : Naming) (view : View) (may_leave : Trees → Type 0) (must_reopen : Bool)
    (summary : Summary) → LeavesTheLast view may_leave → IsClean view
    → AreBooks naming view may_leave must_reopen summary
    → StopIsHarmless (seen_of naming view may_leave must_reopen summary)
settled_on naming view may_leave must_reopen summary last clean books is_open book left =
    let ready = books.ready is_open clean in
    left.2 ∙ book_of_left view may_leave last ready.ready left.0 left.1
    ∙ sym (book_of_ready ready.ready)
