use Rattle.book_reports.specs.BillCredits.{credits_of, credits_shown}
use Rattle.book_reports.proofs.Words.{folded}
use Rattle.book_reports.proofs.bill_credits.billed_credits.Goals as goal

pub returns : goal.returns
returns g c =
    folded credits_shown (credits_of c.args.period c.args.centre.now) c.fold.ensures
    (λ credits rulings is. is)
