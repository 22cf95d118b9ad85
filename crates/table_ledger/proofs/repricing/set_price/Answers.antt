use Rattle.std.proofs.Common.{false, sym, true}
use Rattle.table_ledger.proofs.Repriced.{repriced}
use Rattle.table_ledger.proofs.StepLemmas.{does_so, does_then}
use Rattle.tree_tables.specs.Stored.{stored_entry}
use Rattle.table_ledger.proofs.repricing.set_price.Goals as goal

-- the row, and then the charge rows
pub returns : goal.returns
returns g c = record {
  does = does_so c.change_price.result
      (does_then c.change_price.result c.in_ok-set_price.ensures.does c.change_price.ensures.does
      (λ tables stands. (stands, tt)))
      (λ tables stands. (
        stands,
        repriced c.args.period c.args.stored.now.name (stored_entry c.args.stored.now).1 tables
            stands c.args.priced.now true (sym c.if-not-stored.false),
      ));
}
