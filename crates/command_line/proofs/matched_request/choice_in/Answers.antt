use Rattle.std.proofs.Common.{refl}
use Rattle.command_line.proofs.matched_request.choice_in.Goals as goal

pub returns-in-Some-clause-request : goal.returns-in-Some-clause-request
returns-in-Some-clause-request c = c.dumped_in.ensures.request c.in-Some.ensures.text

pub returns-in-None-clause-request : goal.returns-in-None-clause-request
returns-in-None-clause-request c = c.undumped_in.ensures.request (c.in-None.ensures.left_out refl)
