use Rattle.table_model.specs.Words.{is_due_in}
use Rattle.table_ledger.proofs.KeptNames.{settle_keeps}
use Rattle.table_ledger.proofs.DueCharges.{settles_still, still_first, still_next}
use Rattle.table_ledger.proofs.WalksOf.{of_all, of_none, of_on}
use Rattle.table_ledger.proofs.Words.{state, next_stands}
use Rattle.table_ledger.proofs.adoption.charge_all_due.Goals as goal

pub records-init : goal.records-init
records-init g c =
    of_none (state g.S.Store c.args.tables.now.store) (still_first c.args.chosen.now)

-- none is left
pub returns-in_default : goal.returns-in_default
returns-in_default g c = record {
  does = of_all c.records.invariant (rw c.in_default.is at c.in_ok-stored.ensures.looks);
}

-- its step is done
pub records-preserved : goal.records-preserved
records-preserved g c =
    let chosen = c.args.chosen.now in
    let period = c.args.period in
    let through = c.args.through in
    let stored = c.in-Some.stored in
    of_on c.records.invariant stored (λ tables. settle_keeps period through (is_due_in tables))
    (rw c.in-Some.is at c.in_ok-stored.ensures.looks) c.in_ok-charge_due_record.ensures.does
    (λ tables now still found. (
      (next_stands c.records.last now stored found, still.lasts),
      settles_still period through chosen tables now stored.name still,
    ))
    (λ tables now still. still_next period through chosen tables now stored.name still)
