use Rattle.std.proofs.Common.{Bool}
use Rattle.book_reports.proofs.Words.{folded}
use Rattle.book_reports.specs.KnownCentres.{is_named}
use Rattle.book_reports.proofs.known_centres.is_named.Goals as goal

pub returns : goal.returns
returns g c =
    folded (λ (named : Bool). named) (is_named c.args.centre c.args.days.through) c.fold.ensures
    (λ named tariffs is. is)
