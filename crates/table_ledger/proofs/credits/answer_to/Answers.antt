use Rattle.std.proofs.Common.{◌==◌, ◌∙◌, ap, leb-false, nat_le, sym}
use Rattle.book_model.specs.Words.{credit_ruled, is_known_centre, most_credits, open_by}
use Rattle.book_model.proofs.TestLemmas.{credit_tests}
use Rattle.book_core.specs.Words.{ruled_in}
use Rattle.table_ledger.proofs.credits.answer_to.Goals as goal

-- by the rulings, and by the count
pub returns-clause-answer : goal.returns-clause-answer
returns-clause-answer c =
    let credit = c.args.credit.now in
    c.credit_answer.ensures
    ∙ ap (λ full. credit_ruled (ruled_in c.args.rulings.now) c.args.given full credit.period
    credit.centre) c.has_most-full.ensures

-- one that is given has room
pub returns-clause-room : goal.returns-clause-room
returns-clause-room c done =
    let credit = c.args.credit.now in
    let ruled = ruled_in c.args.rulings.now in
    leb-false most_credits c.args.count
    (sym c.has_most-full.ensures
    ∙ (credit_tests (open_by ruled) c.args.given (credit.period == open_by ruled)
    (is_known_centre ruled credit.centre) c.has_most-full.result
    (sym c.credit_answer.ensures ∙ done)).room)
