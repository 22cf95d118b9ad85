-- What lines charge, and what they reverse, is within the sum of all their amounts; and so it is with
-- what credits take off, and what they add.
use Rattle.std.proofs.Common.{◌+◌, ◌≤◌, Bool, true, false, List, arith, sum_by}
use Rattle.book_model.proofs.Std.{nat_tests, sum_by-le-sum_by}
use Rattle.report_texts.proofs.Words.{Line, charged_amount}
use Rattle.report_texts.specs.AdjustmentLists.{reversed_amount}
use Rattle.report_texts.specs.CentreAmounts.{credit_side}
use Rattle.report_texts.specs.declared.charges.CreditAmount.{CreditAmount}

pub charged_within : (lines : List Line)
    → sum_by charged_amount lines ≤ sum_by (λ line. line.priced.amount) lines
charged_within lines =
    sum_by-le-sum_by charged_amount (λ line. line.priced.amount) lines λ line. grind (arith, nat_tests)

pub reversed_within : (lines : List Line)
    → sum_by reversed_amount lines ≤ sum_by (λ line. line.priced.amount) lines
reversed_within lines =
    sum_by-le-sum_by reversed_amount (λ line. line.priced.amount) lines λ line. grind (arith, nat_tests)

pub credited_within : (credits : List CreditAmount)
    → sum_by (λ credit. credit.credited) credits
    ≤ sum_by (λ credit. credit.credited + credit.debited) credits
credited_within credits =
    sum_by-le-sum_by (λ (credit : CreditAmount). credit.credited)
    (λ credit. credit.credited + credit.debited) credits λ credit. omega arith

pub debited_within : (credits : List CreditAmount)
    → sum_by (λ credit. credit.debited) credits
    ≤ sum_by (λ credit. credit.credited + credit.debited) credits
debited_within credits =
    sum_by-le-sum_by (λ (credit : CreditAmount). credit.debited)
    (λ credit. credit.credited + credit.debited) credits λ credit. omega arith

-- either of them
pub credit_within : (is_debited : Bool) (credits : List CreditAmount)
    → sum_by (credit_side is_debited) credits
    ≤ sum_by (λ credit. credit.credited + credit.debited) credits
credit_within true credits = debited_within credits
credit_within false credits = credited_within credits
