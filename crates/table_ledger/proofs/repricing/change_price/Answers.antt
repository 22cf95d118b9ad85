use Rattle.table_ledger.proofs.StepLemmas.{does_both}
use Rattle.table_ledger.proofs.repricing.change_price.Goals as goal

-- the old price leaves its row, and then the new one joins another
pub returns : goal.returns
returns g c = record {
  does = does_both c.in_ok-take_price.ensures.does c.add_price.ensures.does;
}
