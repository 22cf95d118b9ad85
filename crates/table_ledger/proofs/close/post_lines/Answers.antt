use Rattle.std.proofs.Common.{[], Ok, false}
use Rattle.book_model.proofs.DayLemmas.{day_kept}
use Rattle.tree_tables.specs.declared.line_rows.StoredLine.{StoredLine}
use Rattle.table_ledger.proofs.PostedDetails.{line_posted}
use Rattle.table_ledger.proofs.StepLemmas.{does_both, does_so}
use Rattle.table_ledger.proofs.close.post_lines.Goals as goal

-- the record of one more is posted
pub loop-line-preserved : goal.loop-line-preserved
loop-line-preserved g c =
    let any : StoredLine = record { name = []; plus = false } in
    let through = c.args.close.now.through in
    let posted = rw (day_kept through c.requires) at c.in_ok-post_record.ensures.does in
    does_so (Ok tt) (does_both {result = Ok tt} c.loop-line.invariant posted)
    (λ tables always. (
      tt,
      line_posted through c.args.lines.now c.loop-line.line-index any tables c.loop-line-test.true,
    ))
