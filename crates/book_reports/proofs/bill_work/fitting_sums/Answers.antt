use Rattle.std.proofs.Common.{arith}
use Rattle.book_reports.proofs.DetailSums.{amount_large, fits_detail}
use Rattle.book_reports.proofs.bill_work.fitting_sums.Goals as goal

-- 64 bits do not hold the sums
pub returns-in_default-clause-large : goal.returns-in_default-clause-large
returns-in_default-clause-large c none fits =
    c.with_detail.ensures.large c.in_default.is (fits_detail c.args.sums c.args.detail.now fits)

-- or 62 bits the amount
pub returns-then-amount-ge-AMOUNT_END-clause-large :
    goal.returns-then-amount-ge-AMOUNT_END-clause-large
returns-then-amount-ge-AMOUNT_END-clause-large c none fits =
    amount_large c.args.sums c.in-Some.more c.args.detail.now c.in-Some.ensures.more (omega arith)
    fits
