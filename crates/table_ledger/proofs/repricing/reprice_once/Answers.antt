use Rattle.std.proofs.Common.{◌∙◌, Some, sym}
use Rattle.tree_tables.specs.Stored.{stored_entry}
use Rattle.table_ledger.proofs.Repriced.{step_by}
use Rattle.table_ledger.proofs.StepLemmas.{does_so}
use Rattle.table_ledger.proofs.repricing.reprice_once.Goals as goal

-- the price by the tariff is the one that the step gives
pub returns : goal.returns
returns g c = record {
  does = does_so c.set_price.result c.set_price.ensures.does
      (λ tables stands. (
        stands,
        step_by c.args.period c.args.stored.now.name (stored_entry c.args.stored.now).1 tables
            stands c.args.tariff.now (Some c.in-Some.priced)
            (sym c.in-Some.is ∙ c.in_ok-priced.ensures.price),
      ));
}
