use Rattle.std.proofs.Common.{◌∙◌, sym, ap, subst}
use Rattle.std.proofs.lemmas.List.{get_or-map, length-map}
use Rattle.book_model.specs.Words.{IsDispute, dispute_shown}
use Rattle.report_texts.proofs.dispute_lists.push_disputes.Goals as goal

-- the dispute at the loop's index is one that can be shown
pub push_lines-requires : goal.push_lines-requires
push_lines-requires c =
    let index = c.loop-dispute.dispute-index in
    let dispute = c.dispute-item.result in
    let inside = c.loop-dispute-test.true in
    let shown = get_or-map dispute_shown c.args.disputes.now index dispute (dispute_shown dispute) inside
    ∙ ap dispute_shown (sym c.dispute-item.is) in
    subst IsDispute shown (c.requires index (dispute_shown dispute) (simp length-map inside))
