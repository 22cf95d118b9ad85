use Rattle.tree_tables.proofs.DetailRows.{count_missing, detail_put}
use Rattle.tree_tables.proofs.Looking.{does_alone, does_seen, does_told}
use Rattle.tree_tables.proofs.detail_changes.count_in.Goals as goal

-- no record has the name
pub returns-then-not-branch-clause-does : goal.returns-then-not-branch-clause-does
returns-then-not-branch-clause-does g c =
    does_seen (rw c.if-not-branch.true at c.in_ok-make_detail.ensures.looks)
    (λ tables none holds. count_missing c.args.name.now none holds)

-- the row is put
pub returns-clause-does : goal.returns-clause-does
returns-clause-does g c =
    does_told c.put_row.result (rw c.if-not-branch.false at c.in_ok-make_detail.ensures.looks)
    (does_alone g.S.Store c.put_row.result c.put_row.ensures.quiet c.put_row.ensures.kept
    c.put_row.ensures.puts
    (λ clean puts. record {
      only = puts.rewrites.only;
      made = λ tables holds found. detail_put found.1 found.2 puts holds;
    }))
