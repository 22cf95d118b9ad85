use Rattle.std.proofs.Common.{◌+◌, subst, sym}
use Rattle.report_texts.proofs.AccountLines.{IsAt, reads_on}
use Rattle.report_texts.proofs.usage_lines.push_fields.Goals as goal

-- one more field is one more line
pub loop-preserved : goal.loop-preserved
loop-preserved c =
    let after = c.in-Some.after.now in
    let at = c.loop.counter in
    let next = reads_on c.args.count at c.args.text.now c.loop.rest.now after c.in-Some.field.now
    c.args.out.now c.loop.out c.loop-test.true c.loop.invariant
    c.in-Some.ensures.some in
    subst (IsAt c.args.count (at + 1) c.args.text.now after c.args.out.now)
    (sym c.push_account.ensures) next
