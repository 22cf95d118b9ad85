use Rattle.std.proofs.Common.{take}
use Rattle.report_texts.specs.CentreAmounts.{AreAmounts, credit_amount}
use Rattle.report_texts.proofs.centre_amounts.credit_amounts.Given as goal

-- each centre has what its credits so far add, or take off
abbrev pub invariant-loop-credit : goal.invariant-loop-credit
invariant-loop-credit l =
    AreAmounts l.amounts.entries (credit_amount l.is_debited (take l.credit-index l.credits))
