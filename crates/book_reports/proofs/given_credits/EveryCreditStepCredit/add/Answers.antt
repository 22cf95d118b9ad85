use Rattle.std.proofs.Common.{◌∙◌, ◌++◌, [], ◌∷◌, List, ap}
use Rattle.book_model.specs.Words.{Credit, credit_shown}
use Rattle.book_reports.proofs.Words.{map_push}
use Rattle.book_reports.proofs.given_credits.EveryCreditStepCredit.add.Goals as goal

-- with one more credit
pub returns-clause-added : goal.returns-clause-added
returns-clause-added c read is =
    let credit = c.args.credit.now in
    c.in_ok-push_copy.ensures
    ∙ ap (λ (all : List Credit). all ++ credit_shown credit ∷ []) is
    ∙ map_push credit_shown read credit
