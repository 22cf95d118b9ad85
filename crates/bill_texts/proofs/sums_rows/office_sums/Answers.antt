use Rattle.bill_texts.proofs.BookedLemmas.{booked_together}
use Rattle.bill_texts.proofs.sums_rows.office_sums.Goals as goal

pub returns-in_err-rows-clause-together : goal.returns-in_err-rows-clause-together
returns-in_err-rows-clause-together c = booked_together

pub returns-clause-together : goal.returns-clause-together
returns-clause-together c = booked_together
