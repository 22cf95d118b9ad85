use Rattle.program_output.proofs.NumberLemmas.{numbers_are_one_to_one}
use Rattle.program_output.proofs.laws.numbers_are_one_to_one.Goals as goal

pub returns : goal.returns
returns c = numbers_are_one_to_one
