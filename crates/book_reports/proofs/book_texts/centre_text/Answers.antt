use Rattle.std.proofs.Common.{Some, refl}
use Rattle.book_model.specs.Words.{begun_in}
use Rattle.book_reports.proofs.Words.{call_failed}
use Rattle.book_reports.proofs.KnownCentreLemmas.{is_shut, known_then}
use Rattle.book_reports.specs.BookTexts.{period_answer}
use Rattle.book_reports.proofs.book_texts.centre_text.Goals as goal

pub returns-in_err-known_centre : goal.returns-in_err-known_centre
returns-in_err-known_centre g c =
    let naming = (g.L.Ledger.seen c.args.ledger.now).naming in
    let centre = Some c.args.centre in
    call_failed c.from_residual.result c.from_residual.ensures.1 (λ book. refl) (λ book. refl)
    (λ book. is_shut (begun_in c.args.period book.rulings) centre tt
    (period_answer naming c.args.report c.args.period centre book))
    c.in_err-known_centre.ensures

pub returns : goal.returns
returns g c =
    let naming = (g.L.Ledger.seen c.args.ledger.now).naming in
    let known = c.in_ok-known_centre.ensures in
    known_then c.args.period c.args.centre
    (period_answer naming c.args.report c.args.period (Some c.args.centre)) known
    (rw known.work.naming at c.period_text.ensures)
