use Rattle.table_ledger.proofs.StepLemmas.{does_both}
use Rattle.table_ledger.proofs.choices.charge.Goals as goal

-- what it changes, and then its mark, and that it is counted
pub returns : goal.returns
returns g c = record {
  does = does_both c.in_ok-write_effects.ensures
      (does_both c.in_ok-mark_record.ensures.does c.write_counted.ensures.does);
}
