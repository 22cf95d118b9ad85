use Rattle.std.proofs.Common.{◌∙◌, None, Some, sym}
use Rattle.tree_tables.specs.Stored.{stored_entry}
use Rattle.table_ledger.proofs.Repriced.{replaced_by}
use Rattle.table_ledger.proofs.StepLemmas.{does_nothing, does_so}
use Rattle.table_ledger.proofs.replaced_prices.replace_once.Goals as goal

-- its day has another tariff
pub returns-in_default : goal.returns-in_default
returns-in_default g c = record {
  does = does_nothing (λ tables stands.
      replaced_by c.args.period c.args.stored.now.name (stored_entry c.args.stored.now).1 tables
      stands c.args.tariffs.now c.args.tariff.now None
      (sym c.in_default.is ∙ c.in_ok-priced.ensures.price));
}

-- the price by the tariff is the one that the step gives
pub returns : goal.returns
returns g c = record {
  does = does_so c.set_price.result c.set_price.ensures.does
      (λ tables stands. (
        stands,
        replaced_by c.args.period c.args.stored.now.name (stored_entry c.args.stored.now).1
            tables stands c.args.tariffs.now c.args.tariff.now (Some c.in-Some.priced)
            (sym c.in-Some.is ∙ c.in_ok-priced.ensures.price),
      ));
}
