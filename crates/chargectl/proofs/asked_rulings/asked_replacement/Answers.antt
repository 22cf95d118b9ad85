use Rattle.std.proofs.Common.{inr}
use Rattle.command_line.specs.declared.request.BookRequest.TheVariants as book
use Rattle.command_line.specs.declared.request.Ruling.TheVariants as ruling
use Rattle.chargectl.proofs.DryRunLemmas.{none_asked}
use Rattle.chargectl.proofs.asked_rulings.asked_replacement.Goals as goal

pub returns-in_err-replacement : goal.returns-in_err-replacement
returns-in_err-replacement g c =
    let exit = c.from_residual-in_err-replacement in
    none_asked (g.F.Inputs.held c.args.inputs.now) (book.Rule (ruling.Replace c.args.file))
    ((g.S.Repository.shelf c.args.repository.now).refuses c.args.book.now)
    exit.result c.in_err-replacement.field-0.0 exit.ensures.0 exit.ensures.1
    (inr c.in_err-replacement.ensures)
