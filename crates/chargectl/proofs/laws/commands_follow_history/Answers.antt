use Rattle.program_output.specs.Messages.{AreSaid}
use Rattle.chargectl.proofs.LawLemmas.{commands_follow_history}
use Rattle.chargectl.proofs.laws.commands_follow_history.Goals as goal

pub returns : goal.returns
returns g c =
    commands_follow_history g.S.Repository.shelf g.S.WaitingRepository.waits g.O.Write.contents
    g.O.Writer.may_answer (AreSaid g.E.Write.contents g.E.Writer.may_answer)
