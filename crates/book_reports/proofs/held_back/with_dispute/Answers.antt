use Rattle.book_reports.proofs.held_back.with_dispute.Goals as goal

-- 64 bits do not hold what is held back
pub returns-in_default-clause-large : goal.returns-in_default-clause-large
returns-in_default-clause-large c = λ none.
    rw (c.least_for-least.ensures, c.greatest_for-greatest.ensures)
    at (c.with_amounts.ensures.large c.in_default.is)
