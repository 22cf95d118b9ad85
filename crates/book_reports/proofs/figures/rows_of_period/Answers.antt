use Rattle.std.proofs.Common.{◌∙◌, sym}
use Rattle.book_model.specs.Words.{period_of, rows_for}
use Rattle.book_reports.proofs.FigureLemmas.{taken_else, taken_gone}
use Rattle.book_reports.proofs.figures.rows_of_period.Goals as goal

-- there is no such period
pub returns-then-is_missing-clause-rows : goal.returns-then-is_missing-clause-rows
returns-then-is_missing-clause-rows g c =
    taken_gone (λ book found. rows_for book.rulings found.counted)
    (λ book. period_of book c.args.period) c.charges-answer.result c.new.result
    (sym c.is_missing.ensures ∙ c.if-is_missing.true) c.new.ensures.items c.charges-answer.ensures.rows

pub returns-else-is_missing-clause-rows : goal.returns-else-is_missing-clause-rows
returns-else-is_missing-clause-rows g c =
    taken_else (λ book found. rows_for book.rulings found.counted)
    (λ book. period_of book c.args.period) c.charges-answer.result
    (sym c.is_missing.ensures ∙ c.if-is_missing.false) c.charges-answer.ensures.rows
