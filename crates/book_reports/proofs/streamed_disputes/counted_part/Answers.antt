use Rattle.std.proofs.Common.{◌≡◌, ◌∙◌, Global, Vec, ℕ, subst, sym, IfOk}
use Rattle.book_model.specs.Words.{dispute_shown}
use Rattle.book_reports.proofs.DisputeLemmas.{past_counted, still_counted}
use Rattle.book_reports.proofs.streamed_disputes.counted_part.Goals as goal

-- no more were counted
pub returns-then-count-number : goal.returns-then-count-number
returns-then-count-number c =
    c.new.ensures.items
    ∙ sym (past_counted c.args.form c.args.count c.args.number (dispute_shown c.args.dispute.now)
    c.if-count-number.true)

-- it is one of those
pub returns : goal.returns
returns c =
    subst (λ part. IfOk c.part_of.result (λ (made : Vec ℕ Global). made.items ≡ part))
    (sym (still_counted c.args.form c.args.count c.args.number (dispute_shown c.args.dispute.now)
    c.if-count-number.false))
    c.part_of.ensures
