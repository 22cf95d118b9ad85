use Rattle.std.proofs.Common.{◌≡◌}
use Rattle.std.proofs.lemmas.Result.{IfOk-weaker}
use Rattle.tariff_rules.specs.Entry.{entry_in}
use Rattle.tariff_rules.proofs.FaultLemmas.{has_its_fault}
use Rattle.tariff_rules.proofs.tariff.Tariff.entry_at_fault.Goals as goal

pub returns-clause-fault : goal.returns-clause-fault
returns-clause-fault c =
    IfOk-weaker c.entry_of_text.result (λ found. found ≡ entry_in c.args.text.now) _
    (λ found is. has_its_fault c.args.text.now found is) c.entry_of_text.ensures
