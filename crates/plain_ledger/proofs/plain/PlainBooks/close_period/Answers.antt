use Rattle.std.proofs.Common.{◌≡◌, ◌∙◌, ap}
use Rattle.book_model.specs.Words.{close_answer}
use Rattle.plain_ledger.specs.PlainBook.{book_in}
use Rattle.book_model.proofs.DayLemmas.{day_kept}
use Rattle.plain_ledger.proofs.plain.PlainBooks.close_period.Given.{Over}
use Rattle.plain_ledger.proofs.plain.PlainBooks.close_period.Goals.{After-close_answer-answer}

-- the answer is that of the book
answer_is : (g : Over) (c : After-close_answer-answer g) → c.close_answer-answer.result
    ≡ close_answer (book_in c.args.self.now).rulings c.args.period c.args.through
answer_is g c =
    c.close_answer-answer.ensures
    ∙ ap (close_answer (book_in c.args.self.now).rulings c.args.period)
    (day_kept c.args.through c.requires)
