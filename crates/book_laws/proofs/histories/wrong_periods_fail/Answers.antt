use Rattle.book_laws.proofs.WrongPeriodLemmas.{wrong_periods_fail}
use Rattle.book_laws.proofs.histories.wrong_periods_fail.Goals as goal

pub returns : goal.returns
returns c = wrong_periods_fail
