use Rattle.std.proofs.Common.{refl, rules}
use Rattle.book_lists.proofs.ReadingLemmas.{call_failed}
use Rattle.book_reports.specs.BookTexts.{period_adjustment_table, period_adjustments}
use Rattle.book_reports.specs.BookTexts.{period_statement, period_statement_table}
use Rattle.book_reports.proofs.MadeLemmas.{call_made, period_made}
use Rattle.book_reports.proofs.book_texts.period_text.Goals as goal

-- the books did not say through which day the period was closed
pub returns-in_err-through-in-Statement : goal.returns-in_err-through-in-Statement
returns-in_err-through-in-Statement g c =
    let exit = c.from_residual in
    rw c.in-Statement.is (call_failed exit.result exit.ensures.1 (λ book. refl) (λ book. refl)
    (λ book is. cc is) c.in_err-through-in-Statement.ensures.through)

pub returns-in_err-through-in-AdjustmentList : goal.returns-in_err-through-in-AdjustmentList
returns-in_err-through-in-AdjustmentList g c =
    let exit = c.from_residual-in_err-through-in-AdjustmentList in
    rw c.in-AdjustmentList.is (call_failed exit.result exit.ensures.1 (λ book. refl) (λ book. refl)
    (λ book is. cc is) c.in_err-through-in-AdjustmentList.ensures.through)

-- each list that was asked for is made its text
pub returns-in_ok-through-in-Statement : goal.returns-in_ok-through-in-Statement
returns-in_ok-through-in-Statement g c =
    rw c.in-Statement.is (period_made _ (period_statement c.args.centre c.args.period)
    (λ book. refl) c.in_ok-through-in-Statement.ensures.through c.charges.ensures.rows
    c.made_of.ensures λ rows text made. search rules)

pub returns-in-StatementTable : goal.returns-in-StatementTable
returns-in-StatementTable g c =
    rw c.in-StatementTable.is (call_made (period_statement_table c.args.centre c.args.period)
    (λ book. refl) c.charges-in-StatementTable.ensures.rows
    c.made_of-in-StatementTable.ensures λ rows table made. search rules)

pub returns-in_ok-through-in-AdjustmentList : goal.returns-in_ok-through-in-AdjustmentList
returns-in_ok-through-in-AdjustmentList g c =
    let day = c.in_ok-through-in-AdjustmentList.ensures.through in
    rw c.in-AdjustmentList.is
    (period_made _ (period_adjustments c.args.centre c.args.period) (λ book. refl) day
    (rw day.work.naming at c.adjustments.ensures.lines) c.made_of-in-AdjustmentList.ensures
    λ lines text made. search rules)

pub returns-in-AdjustmentTable : goal.returns-in-AdjustmentTable
returns-in-AdjustmentTable g c =
    rw c.in-AdjustmentTable.is (call_made (period_adjustment_table c.args.centre c.args.period)
    (λ book. refl) c.adjustments-in-AdjustmentTable.ensures.lines
    c.made_of-in-AdjustmentTable.ensures λ lines table made. search rules)
