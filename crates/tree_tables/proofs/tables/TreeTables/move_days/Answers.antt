use Rattle.std.proofs.Common.{refl, rules}
use Rattle.tree_rows.proofs.Calls.{clean_before, quiet_both}
use Rattle.tree_tables.proofs.Looking.{does_well}
use Rattle.tree_tables.proofs.MoveDays.{all_moved, some_looked, some_more}
use Rattle.tree_tables.proofs.tables.TreeTables.move_days.Goals as goal

-- at first no row went
pub rows-init : goal.rows-init
rows-init g c = record {
  quiet = search rules;
  some = λ clean. some_looked c.args.close.now.period c.args.close.now.through refl;
}

-- one more went
pub rows-preserved : goal.rows-preserved
rows-preserved g c = record {
  quiet = quiet_both g.S.Store c.rows.invariant.quiet c.move_day.ensures.quiet;
  some = λ clean. some_more c.args.close.now.period c.args.close.now.through
      (c.rows.invariant.some (clean_before g.S.Store c.move_day.ensures.quiet clean))
      (c.in_ok-move_day.ensures.moved clean);
}

-- none is left
pub returns-then-not-branch : goal.returns-then-not-branch
returns-then-not-branch g c = record {
  does = does_well g.S.Store
      (quiet_both g.S.Store c.rows.invariant.quiet c.move_day.ensures.quiet)
      (λ clean. all_moved c.args.close.now.period c.args.close.now.through
      (some_more c.args.close.now.period c.args.close.now.through
      (c.rows.invariant.some (clean_before g.S.Store c.move_day.ensures.quiet clean))
      (c.in_ok-move_day.ensures.moved clean))
      (c.in_ok-move_day.ensures.ended c.if-not-branch.true clean));
}
