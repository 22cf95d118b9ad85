use Rattle.std.proofs.Common.{refl, subst, sym}
use Rattle.tree_tables.specs.Steps.{HasNoRows}
use Rattle.table_ledger.proofs.Words.{Trees, state, IsAtRest}
use Rattle.table_ledger.proofs.OpenLemmas.{created}
use Rattle.table_ledger.proofs.ledger.TableLedger.create.Goals as goal

pub returns-in-Ok-clause-books : goal.returns-in-Ok-clause-books
returns-in-Ok-clause-books g c = λ clean rest none.
    let given = sym c.over-tables.ensures in
    created (g.N.Naming.name_of c.args.naming) (state g.S.Store c.make_books.new.tables.store) _
    (λ (trees : Trees). g.met.S.Store.settled c.make_books.new.tables.store trees) clean
    (c.in-Ok.ensures.makes.made clean (subst (λ store. IsAtRest (g.S.Store.view store)) given rest)
    (subst (λ store. HasNoRows (g.S.Store.view store).trees) given none))
    c.new.ensures refl refl refl refl refl
