use Rattle.program_output.proofs.LawLemmas.{same_records_same_texts}
use Rattle.program_output.proofs.laws.same_records_same_texts.Goals as goal

pub returns : goal.returns
returns c = same_records_same_texts
