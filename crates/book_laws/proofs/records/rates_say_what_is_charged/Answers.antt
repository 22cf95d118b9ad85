use Rattle.book_laws.proofs.ReckoningLemmas.{rates_say_what_is_charged}
use Rattle.book_laws.proofs.records.rates_say_what_is_charged.Goals as goal

pub returns : goal.returns
returns c = rates_say_what_is_charged
