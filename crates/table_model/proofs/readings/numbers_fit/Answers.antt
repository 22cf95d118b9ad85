use Rattle.table_model.proofs.FitsLemmas.{numbers_fit}
use Rattle.table_model.proofs.readings.numbers_fit.Goals as goal

pub returns : goal.returns
returns c = numbers_fit
