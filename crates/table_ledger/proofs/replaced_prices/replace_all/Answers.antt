use Rattle.std.proofs.Common.{refl}
use Rattle.table_ledger.proofs.KeptNames.{replace_keeps}
use Rattle.table_ledger.proofs.WalksOf.{of_all, of_none, of_on}
use Rattle.table_ledger.proofs.Words.{state, next_stands}
use Rattle.table_ledger.proofs.replaced_prices.replace_all.Goals as goal

pub records-init : goal.records-init
records-init g c = of_none (state g.S.Store c.args.tables.now.store) (λ tables always. tt)

-- none is left
pub returns-in_default : goal.returns-in_default
returns-in_default g c = record {
  does = of_all c.records.invariant (rw c.in_default.is at c.in_ok-stored.ensures.looks);
}

-- its step is done
pub records-preserved : goal.records-preserved
records-preserved g c =
    of_on c.records.invariant c.in-Some.stored
    (λ tables. replace_keeps c.args.period c.args.tariffs.now c.args.tariff.now)
    (rw c.in-Some.is at c.in_ok-stored.ensures.looks) c.in_ok-replace_once.ensures.does
    (λ tables now still found. (next_stands c.records.last now c.in-Some.stored found, refl))
    (λ tables now still. tt)
