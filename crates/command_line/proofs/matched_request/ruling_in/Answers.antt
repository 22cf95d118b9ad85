use Rattle.std.proofs.Common.{codes, subst}
use Rattle.command_line.specs.Requests.{IsDryRun, rows_in}
use Rattle.command_line.proofs.matched_request.ruling_in.Goals as goal

pub returns-clause-asked : goal.returns-clause-asked
returns-clause-asked c =
    λ name named near.
    c.ruled.ensures name (rows_in c.args.found.now) named
    (subst (IsDryRun (rows_in c.args.found.now)) c.if-tried.false c.in_ok-tried.ensures.flag) near
