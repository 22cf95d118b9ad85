use Rattle.std.proofs.Common.{codes, refl, subst}
use Rattle.command_line.specs.Requests.{IsFlag}
use Rattle.command_line.proofs.matched_request.submitted.Goals as goal

pub returns-then-replace-clause-ruling : goal.returns-then-replace-clause-ruling
returns-then-replace-clause-ruling c =
    λ rows given replace.
    (refl, given, subst (IsFlag rows (codes "replace")) c.if-replace.true replace)

pub returns-then-replace-clause-near : goal.returns-then-replace-clause-near
returns-then-replace-clause-near c = λ rows near given. given

pub returns-clause-ruling : goal.returns-clause-ruling
returns-clause-ruling c =
    λ rows given replace.
    (refl, given, subst (IsFlag rows (codes "replace")) c.if-replace.false replace)

pub returns-clause-near : goal.returns-clause-near
returns-clause-near c = λ rows near given. given
