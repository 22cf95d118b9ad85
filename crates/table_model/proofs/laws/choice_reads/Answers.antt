use Rattle.table_model.proofs.CurrentLemmas.{choice_reads}
use Rattle.table_model.proofs.laws.choice_reads.Goals as goal

pub returns : goal.returns
returns c = choice_reads
