use Rattle.std.proofs.Common.{[], Ok, pos}
use Rattle.tree_rows.proofs.Calls.{schema_both}
use Rattle.tree_tables.proofs.Looking.{does_err, kept_after}
use Rattle.table_ledger.proofs.SurvivalLemmas.{clean_before, survives_then}
use Rattle.table_ledger.specs.declared.upgrading.Counted.{Counted}
use Rattle.table_ledger.proofs.CountedList.{count_more}
use Rattle.table_ledger.proofs.StepLemmas.{does_both, does_so}
use Rattle.table_ledger.proofs.upgrading.count_each.Goals as goal

-- the record of one more is counted
pub loop-one-preserved : goal.loop-one-preserved
loop-one-preserved g c =
    let any : Counted = record { day = pos 0; name = [] } in
    record {
      does = does_so (Ok tt)
          (does_both {result = Ok tt} c.loop-one.invariant.does c.in_ok-count_in.ensures.does)
          (λ tables always. (
            tt,
            count_more c.args.all.now c.loop-one.one-index any tables c.loop-one-test.true,
          ));
      schema = schema_both c.loop-one.invariant.schema c.in_ok-count_in.ensures.schema;
    }

-- a step that fails leaves the last commit
pub returns-in_err-count_in-clause-does : goal.returns-in_err-count_in-clause-does
returns-in_err-count_in-clause-does g c =
    let so_far = c.loop-one.invariant.does in
    let call = c.in_err-count_in.ensures.does in
    does_err c.from_residual.result c.from_residual.ensures.0
    (survives_then so_far.survives call.survives) (λ clean.
    kept_after (so_far.done (clean_before call.survives clean)).only (call.refused clean))
