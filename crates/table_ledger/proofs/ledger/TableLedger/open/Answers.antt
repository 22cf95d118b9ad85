use Rattle.std.proofs.Common.{subst, sym}
use Rattle.table_model.specs.Words.{tables_of}
use Rattle.table_ledger.proofs.Words.{Trees, state, Stores}
use Rattle.table_ledger.proofs.LoadLemmas.{read_open}
use Rattle.table_ledger.proofs.ledger.TableLedger.open.Goals as goal

pub returns-in-Ok-clause-books : goal.returns-in-Ok-clause-books
returns-in-Ok-clause-books g c = λ clean book whole journaled keeping.
    let names = g.N.Naming.name_of c.args.naming in
    read_open names (state g.S.Store c.over-tables.result.store)
    (state g.S.Store c.read_summary.new.tables.store) c.in-Ok.summary book
    (λ (trees : Trees). g.met.S.Store.settled c.read_summary.new.tables.store trees)
    c.in-Ok.ensures.reads clean whole journaled
    (subst (λ store. Stores (g.S.Store.view store) (tables_of names book))
    (sym c.over-tables.ensures) keeping)
