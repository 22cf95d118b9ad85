use Rattle.book_laws.proofs.LinePeriods.{billed_lines_have_periods}
use Rattle.book_laws.proofs.bills.billed_lines_have_periods.Goals as goal

pub returns : goal.returns
returns c = billed_lines_have_periods
