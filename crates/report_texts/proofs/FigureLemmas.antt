-- The records that are dated on a day or later are some of all.
use Rattle.std.proofs.Common.{◌≤◌, List, ℤ, arith, sum_by}
use Rattle.book_model.proofs.Std.{nat_tests, sum_by-le-sum_by}
use Rattle.report_texts.specs.Figures.{count_from}
use Rattle.report_texts.proofs.Words.{ChargeRow}

pub count_within : (day : ℤ) (rows : List ChargeRow)
    → sum_by (count_from day) rows ≤ sum_by (λ row. row.count) rows
count_within day rows =
    sum_by-le-sum_by (count_from day) (λ row. row.count) rows λ row. grind (arith, nat_tests)
