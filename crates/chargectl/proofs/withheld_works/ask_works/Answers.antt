use Rattle.std.proofs.Common.{inr}
use Rattle.chargectl.proofs.WorkLemmas.{not_withheld}
use Rattle.chargectl.proofs.withheld_works.ask_works.Goals as goal

-- a dump that is not read
pub returns-in_err-named : goal.returns-in_err-named
returns-in_err-named g c =
    not_withheld c.args.layout ((g.F.Inputs.held c.args.inputs.now).holds c.args.file.now)
    c.args.book.now (g.S.Repository.shelf c.args.repository.now)
    c.from_residual-in_err-named.result c.in_err-named.field-0.0
    c.from_residual-in_err-named.ensures.0 c.from_residual-in_err-named.ensures.1
    (inr c.in_err-named.ensures.refused)

pub returns : goal.returns
returns g c = record {
  named = c.in_ok-named.named;
  read = c.in_ok-named.ensures.named;
  came = c.withhold_named.ensures;
}
