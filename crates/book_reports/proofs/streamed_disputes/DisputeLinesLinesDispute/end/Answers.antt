use Rattle.std.proofs.Common.{◌≤◌, ◌∙◌, length, subst, sym}
use Rattle.book_reports.proofs.DisputeLemmas.{none_missing}
use Rattle.book_reports.proofs.streamed_disputes.DisputeLinesLinesDispute.end.Goals as goal

-- none is missing
pub returns : goal.returns
returns c disputes is =
    let lines = c.args.self.now in
    c.new.ensures.items
    ∙ sym (none_missing lines.form lines.count (length disputes)
    (subst (λ number. lines.count ≤ number) is c.if-number-count.false))
