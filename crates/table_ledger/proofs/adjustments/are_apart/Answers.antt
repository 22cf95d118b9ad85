use Rattle.std.proofs.Common.{◌∙◌, ◌-◌, ◌<◌, ap, arith, sym, true≢false, is_lt}
use Rattle.table_ledger.proofs.RisingNames.{rise_at, rising_apart}
use Rattle.table_ledger.proofs.adjustments.are_apart.Goals as goal

pub returns-clause-apart : goal.returns-clause-apart
returns-clause-apart c = λ passed.
    rising_apart c.args.lines.now (λ k any within.
    c.loop-at.invariant.rise k any (omega (arith, within, c.loop-at-test.false)))

-- names do not rise if two of them do not
pub returns-then-not-is_before-clause-refused : goal.returns-then-not-is_before-clause-refused
returns-then-not-is_before-clause-refused c = λ refused rise.
    let at = c.loop-at.at in
    let past = c.loop-at.invariant.past in
    let before : at - 1 < at = omega (arith, past) in
    let less = rise_at c.args.lines.now (at - 1) at c.index-lines-at.result
    c.index-lines-at-in-loop-at.result before c.loop-at-test.true c.index-lines-at.is
    c.index-lines-at-in-loop-at.is rise in
    true≢false (sym (sym c.if-not-is_before.true ∙ c.is_before.ensures ∙ ap is_lt less))
