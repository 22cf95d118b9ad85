use Rattle.tree_rows.proofs.Calls.{kept_after_look}
use Rattle.tree_tables.proofs.Looking.{looks_err, survives_both, was_clean}
use Rattle.table_ledger.proofs.effects.look_for_view.Goals as goal

-- a look that fails leaves the last commit,
pub returns-in_err-has_choice-clause-looks : goal.returns-in_err-has_choice-clause-looks
returns-in_err-has_choice-clause-looks g c =
    let call = c.in_err-has_choice.ensures.looks in
    looks_err c.from_residual.result c.from_residual.ensures.0 call.survives call.refused

-- also after another
pub returns-in_err-member-clause-looks : goal.returns-in_err-member-clause-looks
returns-in_err-member-clause-looks g c =
    let before = c.in_ok-has_choice.ensures.looks in
    let call = c.in_err-member.ensures.looks in
    looks_err c.from_residual-in_err-member.result c.from_residual-in_err-member.ensures.0
    (survives_both before.survives call.survives) (λ clean.
    kept_after_look (before.found (was_clean call.survives clean)).same (call.refused clean))
