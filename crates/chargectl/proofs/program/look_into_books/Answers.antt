use Rattle.std.proofs.Common.{rules}
use Rattle.chargectl.proofs.program.look_into_books.Goals as goal

pub returns-in-Report : goal.returns-in-Report
returns-in-Report g c =
    let comes = c.report.ensures (g.F.Inputs.held c.args.inputs.now) in
    search rules
