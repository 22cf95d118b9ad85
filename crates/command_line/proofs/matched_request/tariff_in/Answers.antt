use Rattle.std.proofs.Common.{codes}
use Rattle.command_line.specs.Requests.{rows_in}
use Rattle.command_line.proofs.matched_request.tariff_in.Goals as goal

pub returns-clause-asked : goal.returns-clause-asked
returns-clause-asked c =
    let rows = rows_in c.args.found.now in
    c.ruling_in.ensures.asked (codes "tariff")
    (c.submitted.ensures.ruling rows c.in_ok-file.ensures.text c.in_ok-replace.ensures.flag)
    (c.submitted.ensures.near rows c.in_ok-near.near c.in_ok-near.ensures.flag)
