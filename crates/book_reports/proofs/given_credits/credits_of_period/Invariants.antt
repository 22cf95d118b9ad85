use Rattle.std.proofs.Common.{◌≡◌, None, map, take}
use Rattle.book_model.specs.Words.{credit_shown}
use Rattle.book_reports.specs.BillCredits.{credits_of, credits_shown}
use Rattle.book_reports.proofs.given_credits.credits_of_period.Given as goal

-- those of the credits so far are kept
abbrev pub invariant-loop-credit : goal.invariant-loop-credit
invariant-loop-credit l =
    credits_shown l.own ≡ credits_of l.period None (map credit_shown (take l.credit-index l.credits))
