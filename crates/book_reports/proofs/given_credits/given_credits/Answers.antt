use Rattle.std.proofs.Common.{List}
use Rattle.book_model.specs.Words.{Credit}
use Rattle.book_reports.specs.BillCredits.{credits_shown}
use Rattle.book_reports.proofs.Words.{folded}
use Rattle.book_reports.proofs.given_credits.given_credits.Goals as goal

pub returns : goal.returns
returns g c =
    folded credits_shown (λ (credits : List Credit). credits) c.fold.ensures (λ credits read is. is)
