use Rattle.std.proofs.Common.{codes}
use Rattle.command_line.specs.Requests.{rows_in}
use Rattle.command_line.proofs.matched_request.listed_in.Goals as goal

pub returns-clause-request : goal.returns-clause-request
returns-clause-request c =
    λ left_out given no_dump no_import none.
    c.of_books_in.ensures.request (codes "choose")
    (c.listed.ensures (rows_in c.args.found.now) left_out given no_dump no_import none
    c.in_ok-tried.ensures.flag)
