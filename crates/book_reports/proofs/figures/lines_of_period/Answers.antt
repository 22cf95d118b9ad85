use Rattle.std.proofs.Common.{◌∙◌, sym}
use Rattle.book_model.specs.Words.{lines_of, period_of}
use Rattle.book_reports.proofs.FigureLemmas.{taken_else, taken_gone}
use Rattle.book_reports.proofs.figures.lines_of_period.Goals as goal

-- there is no such period
pub returns-then-is_missing-clause-lines : goal.returns-then-is_missing-clause-lines
returns-then-is_missing-clause-lines g c =
    let naming = (g.L.Ledger.seen c.args.ledger.now).naming in
    taken_gone (λ book. lines_of naming book.rulings)
    (λ book. period_of book c.args.period) c.adjustments-answer.result c.new.result
    (sym c.is_missing.ensures ∙ c.if-is_missing.true) c.new.ensures.items c.adjustments-answer.ensures.lines

pub returns-else-is_missing-clause-lines : goal.returns-else-is_missing-clause-lines
returns-else-is_missing-clause-lines g c =
    let naming = (g.L.Ledger.seen c.args.ledger.now).naming in
    taken_else (λ book. lines_of naming book.rulings)
    (λ book. period_of book c.args.period) c.adjustments-answer.result
    (sym c.is_missing.ensures ∙ c.if-is_missing.false) c.adjustments-answer.ensures.lines
