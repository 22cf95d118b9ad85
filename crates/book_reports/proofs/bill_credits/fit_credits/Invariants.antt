use Rattle.std.proofs.Common.{◌≡◌, sum_by, take}
use Rattle.book_model.specs.Words.{credit_shown}
use Rattle.book_reports.specs.BillCredits.{size_of}
use Rattle.book_reports.proofs.bill_credits.fit_credits.Given as goal

-- what the credits so far come to
abbrev pub invariant-loop-credit : goal.invariant-loop-credit
invariant-loop-credit l =
    l.sum ≡ sum_by (λ credit. size_of (credit_shown credit)) (take l.credit-index l.credits)
