use Rattle.office.proofs.RunLemmas.{run_twice_is_once}
use Rattle.office.proofs.laws.run_twice_is_once.Goals as goal

pub returns : goal.returns
returns c = run_twice_is_once
