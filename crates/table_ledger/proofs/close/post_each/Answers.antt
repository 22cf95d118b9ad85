use Rattle.std.proofs.Common.{[], Ok}
use Rattle.book_model.proofs.DayLemmas.{day_kept}
use Rattle.table_ledger.proofs.PostedDetails.{name_posted}
use Rattle.table_ledger.proofs.StepLemmas.{does_both, does_so}
use Rattle.table_ledger.proofs.close.post_each.Goals as goal

-- the record of one more is posted
pub loop-name-preserved : goal.loop-name-preserved
loop-name-preserved g c =
    let through = c.args.close.now.through in
    let posted = rw (day_kept through c.requires) at c.in_ok-post_record.ensures.does in
    does_so (Ok tt) (does_both {result = Ok tt} c.loop-name.invariant posted)
    (λ tables always. (
      tt,
      name_posted through c.args.names.now c.loop-name.name-index [] tables c.loop-name-test.true,
    ))
