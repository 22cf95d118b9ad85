use Rattle.std.proofs.Common.{arith, length-take-le, sym, take_all}
use Rattle.table_ledger.specs.Stages.{most_in_commit}
use Rattle.table_ledger.proofs.ledger.first_names.Goals as goal

pub slice_bounds-result-end : goal.slice_bounds-result-end
slice_bounds-result-end c = sym (length-take-le most_in_commit c.args.names.now (omega arith))

pub returns-else-names-gt-MOST_IN_COMMIT-clause-first : goal.returns-else-names-gt-MOST_IN_COMMIT-clause-first
returns-else-names-gt-MOST_IN_COMMIT-clause-first c = sym (take_all _ _ c.if-names-gt-MOST_IN_COMMIT.false)

pub returns-then-names-gt-MOST_IN_COMMIT-clause-few : goal.returns-then-names-gt-MOST_IN_COMMIT-clause-few
returns-then-names-gt-MOST_IN_COMMIT-clause-few c =
    simp (length-take-le most_in_commit c.args.names.now (omega arith)) (omega arith)

pub returns-then-names-gt-MOST_IN_COMMIT-clause-within :
    goal.returns-then-names-gt-MOST_IN_COMMIT-clause-within
returns-then-names-gt-MOST_IN_COMMIT-clause-within c =
    simp (length-take-le most_in_commit c.args.names.now (omega arith)) (omega arith)
