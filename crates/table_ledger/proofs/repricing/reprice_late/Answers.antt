use Rattle.tree_tables.specs.States.{state}
use Rattle.table_ledger.proofs.LatePrices.{priced_all, priced_first, priced_next, priced_stays}
use Rattle.table_ledger.proofs.Walks.{walks_all, walks_none, walks_on}
use Rattle.table_ledger.proofs.repricing.reprice_late.Goals as goal

pub records-init : goal.records-init
records-init g c =
    walks_none (state g.S.Store c.args.tables.now.store)
    (λ tables holds takes. priced_first holds takes)

-- none is left
pub returns-in_default : goal.returns-in_default
returns-in_default g c = record {
  does = walks_all c.records.invariant (rw c.in_default.is at c.in_ok-late.ensures.looks)
      (λ tables takes so seen. priced_all so (seen so.now so.holds));
}

-- its step is done
pub records-preserved : goal.records-preserved
records-preserved g c =
    let late = c.in-Some.late in
    walks_on c.records.invariant (rw c.in-Some.is at c.in_ok-late.ensures.looks)
    c.in_ok-reprice.ensures.does
    (λ tables so acts.
    let acted = acts so.now so.holds in
    priced_next so late acted.0 (acted.1 (acted.0.there, priced_stays so late.stored.name)))
