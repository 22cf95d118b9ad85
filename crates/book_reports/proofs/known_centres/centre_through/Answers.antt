use Rattle.std.proofs.Common.{Ok, Some, refl}
use Rattle.book_model.specs.Words.{begun_in}
use Rattle.book_reports.proofs.Words.{call_failed, closed_through}
use Rattle.book_reports.proofs.KnownCentreLemmas.{is_shut, known_then}
use Rattle.book_reports.proofs.known_centres.centre_through.Goals as goal

pub returns-in_err-known_centre-clause-through : goal.returns-in_err-known_centre-clause-through
returns-in_err-known_centre-clause-through g c =
    call_failed c.from_residual.result c.from_residual.ensures.1 (λ book. refl) (λ book. refl)
    (λ book. is_shut (begun_in c.args.period book.rulings) (Some c.args.centre) tt
    (Ok (closed_through book c.args.period)))
    c.in_err-known_centre.ensures

pub returns-clause-through : goal.returns-clause-through
returns-clause-through g c =
    known_then c.args.period c.args.centre (λ book. Ok (closed_through book c.args.period))
    c.in_ok-known_centre.ensures c.closed_through.ensures.through
