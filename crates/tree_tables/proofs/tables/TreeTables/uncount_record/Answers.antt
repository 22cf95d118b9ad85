use Rattle.tree_tables.proofs.DetailRows.{detail_dropped, uncount_missing}
use Rattle.tree_tables.proofs.Looking.{does_alone, does_seen, does_told}
use Rattle.tree_tables.proofs.tables.TreeTables.uncount_record.Goals as goal

-- no record has the name
pub returns-then-not-branch : goal.returns-then-not-branch
returns-then-not-branch g c = record {
  does = does_seen (rw c.if-not-branch.true at c.in_ok-make_detail.ensures.looks)
      (λ tables none holds. uncount_missing c.args.name.now none holds);
}

-- the row is dropped
pub returns : goal.returns
returns g c = record {
  does = does_told c.drop_row.result (rw c.if-not-branch.false at c.in_ok-make_detail.ensures.looks)
      (does_alone g.S.Store c.drop_row.result c.drop_row.ensures.quiet c.drop_row.ensures.kept
      c.drop_row.ensures.drops
      (λ clean drops. record {
        only = drops.rewrites.only;
        made = λ tables holds found. detail_dropped found.1 found.2 drops holds;
      }));
}
