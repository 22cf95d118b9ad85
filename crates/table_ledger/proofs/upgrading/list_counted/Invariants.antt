use Rattle.std.specs.BTreeMap.{get}
use Rattle.tree_rows.specs.Passes.{IsPassing}
use Rattle.book_model.specs.Words.{by_bytes}
use Rattle.table_ledger.proofs.Words.{KeepsSchema, state, Saw}
use Rattle.table_ledger.proofs.CountedList.{ListedSo}
use Rattle.table_ledger.proofs.upgrading.list_counted.Given as goal

-- the names are those of the records that were passed
abbrev pub invariant-records : goal.invariant-records
invariant-records g l =
    let now = g.S.Store.view l.store in
    record {
      passing : IsPassing now;
      seen : Saw (state g.S.Store l.fn.store) (state g.S.Store l.store)
          (ListedSo (λ name. get by_bytes l.fn.lines name) now l.all.items);
      schema : KeepsSchema (g.S.Store.view l.fn.store) now;
    }
