use Rattle.std.proofs.Common.{◌≡◌, ◌++◌, append_assoc, map, subst}
use Rattle.std.proofs.lemmas.List.{length-map, take_all}
use Rattle.book_model.specs.Words.{dispute_shown}
use Rattle.report_texts.specs.DisputeTables.{rows_from}
use Rattle.report_texts.proofs.RowLemmas.{long_enough, one_more_dispute, shown_at}
use Rattle.report_texts.proofs.dispute_tables.add_disputes.Goals as goal

-- the dispute at the loop's index is one that can be shown
pub add_members-requires-clause-identity : goal.add_members-requires-clause-identity
add_members-requires-clause-identity c =
    let dispute = c.index-disputes-before in
    rw c.deref.ensures.value (long_enough (dispute_shown dispute.result)
    (shown_at _ _ _ c.requires c.loop-before-test.true dispute.is))

pub add_members-requires-clause-days : goal.add_members-requires-clause-days
add_members-requires-clause-days c =
    let dispute = c.index-disputes-before in
    let shown = shown_at c.args.disputes.now c.loop-before.before dispute.result c.requires
    c.loop-before-test.true dispute.is in
    rw c.deref-in-loop-before.ensures.value shown.days

-- its rows come after those so far
pub loop-before-preserved : goal.loop-before-preserved
loop-before-preserved c =
    let dispute = c.index-disputes-before in
    let before = c.loop-before.before in
    let added = rw (c.deref.ensures.value, c.deref-in-loop-before.ensures.value) at
    c.add_members.ensures in
    let more = one_more_dispute c.args.disputes.now before dispute.result c.loop-before-test.true
    dispute.is in
    rw (added, c.loop-before.invariant, more) (simp append_assoc)

-- those of all are there
pub returns : goal.returns
returns c =
    subst (λ disputes. c.loop-before.table ≡ c.args.table.now ++ rows_from 1 disputes)
    (take_all c.loop-before.before (map dispute_shown c.args.disputes.now)
    (simp length-map c.loop-before-test.false))
    c.loop-before.invariant
