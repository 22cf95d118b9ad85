use Rattle.tree_rows.specs.Rows.{Finds}
use Rattle.tree_tables.proofs.TheBook.{book_found}
use Rattle.table_ledger.proofs.Words.{IfOk-weaker, IsClean}
use Rattle.table_ledger.proofs.upgrading.has_book_row.Goals as goal

-- a look at the tree tells it
pub returns-clause-row : goal.returns-clause-row
returns-clause-row g c =
    let old = g.S.Store.view c.args.store.now in
    let new = g.S.Store.view c.find_row.new.store in
    IfOk-weaker c.find_row.result (λ hit. IsClean new
    → Finds c.in_ok-key.key (old.trees 0) c.find_row.new.row hit) _
    (λ hit finds clean. book_found old.trees c.in_ok-key.key c.find_row.new.row hit
    c.in_ok-key.ensures (finds clean)) c.find_row.ensures.found
