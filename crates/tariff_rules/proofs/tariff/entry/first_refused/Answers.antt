use Rattle.std.proofs.Common.{◌∙◌, sym}
use Rattle.tariff_rules.proofs.RefusedLemmas.{none_refused, refused_here, refused_later}
use Rattle.tariff_rules.proofs.tariff.entry.first_refused.Goals as goal

pub returns-then-branch : goal.returns-then-branch
returns-then-branch g c =
    let value = c.index-entries-before in
    let refused = sym c.in_ok-is_refused.ensures ∙ c.if-branch.true in
    sym (c.loop-before.invariant
    ∙ refused_here _ _ _ value.result c.loop-before-test.true (rw (← value.is) refused))

pub loop-before-preserved : goal.loop-before-preserved
loop-before-preserved g c =
    let value = c.index-entries-before in
    let taken = sym c.in_ok-is_refused.ensures ∙ c.if-branch.false in
    c.loop-before.invariant
    ∙ refused_later _ _ _ value.result c.loop-before-test.true (rw (← value.is) taken)

pub returns : goal.returns
returns g c =
    sym (c.loop-before.invariant
    ∙ none_refused _ c.args.entries.now c.loop-before.before c.loop-before-test.false)
