use Rattle.std.proofs.Common.{subst, w32}
use Rattle.std.proofs.lemmas.Int.{to_z-of_z}
use Rattle.table_model.specs.RowChanges.{post_by}
use Rattle.tree_rows.proofs.Calls.{clean_before, quiet_both}
use Rattle.tree_tables.proofs.Looking.{does_well, only_both}
use Rattle.tree_tables.proofs.Renewing.{posted_held}
use Rattle.tree_tables.specs.Walks.{IsRenewing, RenewsNext}
use Rattle.tree_tables.proofs.tables.TreeTables.post_records.Goals as goal

-- all are posted
pub returns-then-not-branch : goal.returns-then-not-branch
returns-then-not-branch g c =
    let last = c.post_next.ensures.quiet in
    record {
      does = does_well g.S.Store (quiet_both g.S.Store c.steps.invariant.quiet last)
          (λ clean.
          let before = clean_before g.S.Store last clean in
          let step = subst (λ day. RenewsNext (post_by day) (g.S.Store.view c.steps.self.store)
          (g.S.Store.view c.post_next.new.self.store) c.steps.self.key c.post_next.new.self.key
          c.in_ok-post_next.field-0) (to_z-of_z w32 c.args.through c.ranges.through)
          (c.in_ok-post_next.ensures.renews clean) in
          record {
            only = only_both (g.S.Store.view c.args.self.now.store)
                (c.steps.invariant.only before) step.only;
            made = λ tables holds when. posted_held c.args.through
                (rw c.if-not-branch.true at (step.renews tables
                (subst (λ day. IsRenewing (post_by day) tables
                (g.S.Store.view c.steps.self.store).trees c.steps.self.key)
                (to_z-of_z w32 c.args.through c.ranges.through)
                (c.steps.invariant.renewing before tables holds))));
          });
    }
