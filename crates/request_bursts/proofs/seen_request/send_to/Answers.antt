use Rattle.std.proofs.Common.{◌∙◌}
use Rattle.request_bursts.proofs.seen_request.send_to.Goals as goal

pub returns-clause-write : goal.returns-clause-write
returns-clause-write g c = λ told. c.into_inner.ensures.cause (c.send-what.ensures.failed ∙ told)
