use Rattle.std.proofs.Common.{refl}
use Rattle.command_line.proofs.matched_request.undumped_in.Goals as goal

pub returns-in-Some-clause-request : goal.returns-in-Some-clause-request
returns-in-Some-clause-request c =
    λ no_dump. c.imported_in.ensures.request no_dump c.in-Some.ensures.text

pub returns-in-None-clause-request : goal.returns-in-None-clause-request
returns-in-None-clause-request c =
    λ no_dump. c.chosen_in.ensures.request no_dump (c.in-None.ensures.left_out refl)
