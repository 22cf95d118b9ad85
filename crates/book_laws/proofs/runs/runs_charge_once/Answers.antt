use Rattle.book_laws.proofs.RunLemmas.{runs_charge_once}
use Rattle.book_laws.proofs.runs.runs_charge_once.Goals as goal

pub returns : goal.returns
returns c = runs_charge_once
