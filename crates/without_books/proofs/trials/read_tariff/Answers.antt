use Rattle.std.proofs.Common.{subst, sym}
use Rattle.without_books.specs.Reading.{IsTextIn}
use Rattle.without_books.proofs.TextLemmas.{no_tariff, tariff_is}
use Rattle.without_books.proofs.trials.read_tariff.Goals as goal

pub returns-in_err-text : goal.returns-in_err-text
returns-in_err-text g c =
    no_tariff ((g.F.Inputs.held c.args.inputs.now).holds c.args.file.now) c.from_residual.result
    c.in_err-text.field-0.0 c.from_residual.ensures.0 c.from_residual.ensures.1 c.in_err-text.ensures

pub returns : goal.returns
returns g c =
    let had = (g.F.Inputs.held c.args.inputs.now).holds c.args.file.now in
    tariff_is had c.as_str.result.now c.lasting_tariff.result
    (subst (IsTextIn had) (sym c.as_str.ensures.value) c.in_ok-text.ensures.1)
    c.lasting_tariff.ensures.lasts c.lasting_tariff.ensures.refused
