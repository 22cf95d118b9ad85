use Rattle.std.proofs.Common.{refl}
use Rattle.table_ledger.proofs.StageLemmas.{does_seen}
use Rattle.table_ledger.proofs.StepLemmas.{does_so}
use Rattle.table_ledger.proofs.TryLemmas.{saw_found}
use Rattle.table_ledger.proofs.adoption.charge_due.Goals as goal

-- by the choices that were found
pub returns : goal.returns
returns g c = record {
  does = does_seen c.charge_all_due.result (saw_found c.in_ok-chosen.ensures.looks)
      (does_so c.charge_all_due.result c.charge_all_due.ensures.does
      (λ tables known. (known.1, refl)));
}
