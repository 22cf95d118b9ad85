use Rattle.std.proofs.Common.{◌+◌, arith}
use Rattle.tree_rows.specs.declared.listing.TheConstants.{MOST_ROWS}
use Rattle.tree_rows.proofs.Calls.{kept_same}
use Rattle.tree_rows.proofs.RunsRead.{all_read}
use Rattle.tree_rows.proofs.listing.list_run.Goals as goal

-- no more rows than one less than were asked for: they are all
pub returns-clause-found : goal.returns-clause-found
returns-clause-found g c clean =
    all_read g.T.ReadRow.says _ c.in_ok-all.all.items (MOST_ROWS + 1)
    (c.in_ok-all.ensures.found clean) (omega arith)

pub returns-then-len-gt-MOST_ROWS-clause-kept : goal.returns-then-len-gt-MOST_ROWS-clause-kept
returns-then-len-gt-MOST_ROWS-clause-kept g c clean = kept_same (c.in_ok-all.ensures.same clean)
