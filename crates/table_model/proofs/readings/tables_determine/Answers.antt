use Rattle.table_model.proofs.BookLemmas.{tables_determine}
use Rattle.table_model.proofs.readings.tables_determine.Goals as goal

pub returns : goal.returns
returns c = tables_determine
