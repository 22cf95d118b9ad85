use Rattle.std.proofs.Common.{refl, subst}
use Rattle.command_line.specs.Requests.{IsDryRun}
use Rattle.command_line.proofs.matched_request.listed.Goals as goal

pub returns-then-tried : goal.returns-then-tried
returns-then-tried c =
    λ rows left_out given no_dump no_import none tried.
    (refl, left_out, given, no_dump, no_import, none, subst (IsDryRun rows) c.if-tried.true tried)

pub returns : goal.returns
returns c =
    λ rows left_out given no_dump no_import none tried.
    (refl, left_out, given, no_dump, no_import, none, subst (IsDryRun rows) c.if-tried.false tried)
