use Rattle.std.proofs.Common.{codes, refl}
use Rattle.command_line.specs.Requests.{rows_in}
use Rattle.command_line.proofs.matched_request.chosen_in.Goals as goal

pub returns-in-None-text_in-clause-request : goal.returns-in-None-text_in-clause-request
returns-in-None-text_in-clause-request c =
    λ no_dump no_import.
    let rows = rows_in c.args.found.now in
    c.of_books_in.ensures.request (codes "choose")
    (c.ruling_in.ensures.asked (codes "choose")
    (c.named_choice.ensures.ruling rows c.in-Some.ensures.text (c.in-None-text_in.ensures.left_out refl)
    no_dump no_import c.in_ok-none.ensures.flag)
    (c.named_choice.ensures.near rows))
