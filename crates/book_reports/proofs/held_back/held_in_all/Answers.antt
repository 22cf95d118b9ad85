use Rattle.book_model.specs.Words.{held_back_in}
use Rattle.book_reports.proofs.Words.{HeldBack, folded}
use Rattle.book_reports.proofs.held_back.held_in_all.Goals as goal

pub returns : goal.returns
returns g c =
    folded (λ (held : HeldBack). held) (held_back_in c.args.centre.now) c.fold.ensures
    (λ held disputes is. is)
