use Rattle.std.proofs.Common.{◌∙◌, None, Some, ap, cond, sym}
use Rattle.plain_ledger.specs.MadeEntries.{begun_import}
use Rattle.plain_ledger.proofs.made_entries.begun_if.Goals as goal

-- it has one
pub returns-then-share : goal.returns-then-share
returns-then-share c =
    sym (ap (λ b. cond b None (Some (begun_import c.args.share.now c.args.whole c.args.bytes.now)))
    c.if-share.true)

-- or begins one
pub returns : goal.returns
returns c =
    ap Some c.in_ok-made.ensures
    ∙ sym (ap (λ b. cond b None (Some (begun_import c.args.share.now c.args.whole
    c.args.bytes.now))) c.if-share.false)
