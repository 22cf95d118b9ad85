use Rattle.book_reports.proofs.focus_reports.period_table.Goals as goal

-- the table has the days of the period
pub returns : goal.returns
returns c = rw c.focus_days-days.ensures.days at c.table_of.ensures
