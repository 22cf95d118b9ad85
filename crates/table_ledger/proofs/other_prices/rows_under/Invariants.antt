use Rattle.tree_rows.specs.Passes.{IsPassing}
use Rattle.table_ledger.proofs.Words.{state, Saw}
use Rattle.table_ledger.proofs.OtherPriceLemmas.{PassedSo}
use Rattle.table_ledger.proofs.other_prices.rows_under.Given as goal

-- the sums are those of the records that were passed, of which there are as many as steps
abbrev pub invariant-records : goal.invariant-records
invariant-records g l =
    let now = g.S.Store.view l.tables.store in
    record {
      passing : IsPassing now;
      seen : Saw (state g.S.Store l.fn.tables.store) (state g.S.Store l.tables.store)
          (PassedSo l.fn.tariff l.fn.test now l.sums l._steps);
    }
