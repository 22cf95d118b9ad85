use Rattle.std.proofs.Common.{◌∙◌, ap, map}
use Rattle.book_model.specs.Words.{dispute_shown, held_back_in}
use Rattle.book_lists.proofs.CursorLemmas.{map_push}
use Rattle.book_reports.proofs.held_back.HeldStepStepDispute.add.Goals as goal

-- with one more dispute
pub returns-clause-added : goal.returns-clause-added
returns-clause-added c disputes is =
    c.in-Some.ensures.more (map dispute_shown disputes) is
    ∙ ap (held_back_in c.args.self.now.centre)
    (map_push dispute_shown disputes c.args.dispute.now)
