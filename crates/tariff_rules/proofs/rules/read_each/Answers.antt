use Rattle.std.proofs.Common.{◌∙◌}
use Rattle.std.proofs.lemmas.List.{drop_all}
use Rattle.std.proofs.lemmas.Result.{err_from_is_err_and}
use Rattle.tariff_rules.proofs.ReadEachLemmas.{all_found, entry_fails, entry_joins}
use Rattle.tariff_rules.proofs.rules.read_each.Goals as goal

pub returns-in_err-read : goal.returns-in_err-read
returns-in_err-read g c =
    let fault = err_from_is_err_and c.from_residual.result c.from_residual.ensures.1 in
    rw (fault.1, fault.2)
    (λ cause. c.loop-entry.invariant
    ∙ entry_fails _ _ _ c.entry-item.result _ _ c.loop-entry-test.true
    (rw (← c.entry-item.is) (c.in_err-read.ensures cause)))

pub loop-entry-preserved : goal.loop-entry-preserved
loop-entry-preserved g c =
    rw c.in_ok-push.ensures.items (c.loop-entry.invariant
    ∙ entry_joins _ _ _ c.entry-item.result _ _ c.loop-entry-test.true
    (rw (← c.entry-item.is) c.in_ok-read.ensures))

pub returns : goal.returns
returns g c =
    c.loop-entry.invariant ∙ all_found _ c.args.entries.now c.loop-entry.entry-index _
    (drop_all _ _ c.loop-entry-test.false)
