use Rattle.std.proofs.Common.{subst}
use Rattle.streams.specs.Failures.{HasFailed}
use Rattle.chargectl.specs.ClientRequests.{FailsBefore, FailsOpen}
use Rattle.chargectl.proofs.client_requests.end_request.Goals as goal

-- details were sent while the books were open, and a write of them failed then
pub returns-in-Ok-Ok-clause-write : goal.returns-in-Ok-Ok-clause-write
returns-in-Ok-Ok-clause-write g c =
    let Failed = ∥ HasFailed g.W.Writer.may_answer c.args.writer ∥₁ in
    subst (FailsOpen Failed) c.in-Ok-Ok.field-0-is
    (subst (FailsBefore Failed) c.in-Ok-Ok.is c.requires)
