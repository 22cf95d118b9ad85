use Rattle.std.proofs.Common.{◌∙◌, Some, sym}
use Rattle.tree_tables.specs.Stored.{stored_entry}
use Rattle.table_ledger.proofs.Repriced.{priced_stands, step_by}
use Rattle.table_ledger.proofs.StepLemmas.{does_nothing, does_so}
use Rattle.table_ledger.proofs.repricing.reprice.Goals as goal

-- it has its price already
pub returns-then-stands : goal.returns-then-stands
returns-then-stands g c = record {
  does = does_nothing (λ tables known.
      priced_stands c.args.period c.args.stored.now.name (stored_entry c.args.stored.now).1 tables
      known.0 c.args.tariff.now c.in-Some.priced known.1
      (sym c.in-Some.is ∙ c.in_ok-priced.ensures.price) (c.stands.ensures.same c.if-stands.true));
}

-- the price by the tariff is the one that the step gives
pub returns : goal.returns
returns g c = record {
  does = does_so c.set_price.result c.set_price.ensures.does
      (λ tables known. (
        known.0,
        step_by c.args.period c.args.stored.now.name (stored_entry c.args.stored.now).1 tables
            known.0 c.args.tariff.now (Some c.in-Some.priced)
            (sym c.in-Some.is ∙ c.in_ok-priced.ensures.price),
      ));
}
