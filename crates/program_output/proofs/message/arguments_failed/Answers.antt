use Rattle.program_output.proofs.MessageLemmas.{other_arguments}
use Rattle.program_output.proofs.message.arguments_failed.Goals as goal

pub returns-in_default-clause-said : goal.returns-in_default-clause-said
returns-in_default-clause-said g c =
    rw (← c.kind.ensures, other_arguments c.kind.result c.in_default.not-OutOfMemory) c.say.ensures
