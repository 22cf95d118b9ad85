use Rattle.std.proofs.Common.{codes, refl, subst}
use Rattle.command_line.specs.Requests.{IsFlag}
use Rattle.command_line.proofs.matched_request.named_choice.Goals as goal

pub returns-then-none-clause-ruling : goal.returns-then-none-clause-ruling
returns-then-none-clause-ruling c =
    λ rows given left_out no_dump no_import none.
    (refl, given, left_out, no_dump, no_import, subst (IsFlag rows (codes "none")) c.if-none.true none)

pub returns-then-none-clause-near : goal.returns-then-none-clause-near
returns-then-none-clause-near c = λ rows. refl

pub returns-clause-ruling : goal.returns-clause-ruling
returns-clause-ruling c =
    λ rows given left_out no_dump no_import none.
    (refl, given, left_out, no_dump, no_import, subst (IsFlag rows (codes "none")) c.if-none.false none)

pub returns-clause-near : goal.returns-clause-near
returns-clause-near c = λ rows. refl
