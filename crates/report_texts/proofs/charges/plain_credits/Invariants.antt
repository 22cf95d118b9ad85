use Rattle.std.proofs.Common.{◌≡◌, map, take}
use Rattle.book_model.specs.Words.{credit_shown}
use Rattle.report_texts.specs.Charges.{plain_credit}
use Rattle.report_texts.proofs.charges.plain_credits.Given as goal

-- the credits so far are pushed
abbrev pub invariant-loop-credit : goal.invariant-loop-credit
invariant-loop-credit l =
    l.plain.items
    ≡ map (λ credit. plain_credit (credit_shown credit)) (take l.credit-index l.credits)
