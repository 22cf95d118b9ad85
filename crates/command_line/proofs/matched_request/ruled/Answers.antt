use Rattle.std.proofs.Common.{subst}
use Rattle.command_line.specs.Requests.{IsNear}
use Rattle.command_line.proofs.matched_request.ruled.Goals as goal

pub returns-then-near : goal.returns-then-near
returns-then-near c =
    λ name rows named made near. (
      named,
      made,
      subst (IsNear rows c.args.ruling) c.if-near.true near,
    )

pub returns : goal.returns
returns c =
    λ name rows named made near. (
      named,
      made,
      subst (IsNear rows c.args.ruling) c.if-near.false near,
    )
