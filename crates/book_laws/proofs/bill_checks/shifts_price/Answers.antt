use Rattle.book_laws.proofs.PercentLemmas.{one_percent_a_shift, shifts_price}
use Rattle.book_laws.proofs.bill_checks.shifts_price.Goals as goal

pub returns : goal.returns
returns c = record { listed = shifts_price; one = one_percent_a_shift }
