use Rattle.book_reports.proofs.coverage.period_sums.Goals as goal

-- they are read by one fold
pub returns : goal.returns
returns g c = c.fold.ensures
