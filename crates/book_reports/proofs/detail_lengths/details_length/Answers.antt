use Rattle.std.proofs.Common.{ap, length, refl}
use Rattle.book_model.specs.Words.{begun_in}
use Rattle.book_lists.proofs.ReadingLemmas.{call_failed, passed_on}
use Rattle.book_reports.proofs.Words.{closed_through, shown_by}
use Rattle.book_reports.proofs.KnownCentreLemmas.{is_shut}
use Rattle.book_reports.specs.StreamedDetails.{details_answer}
use Rattle.book_reports.proofs.DetailLengths.{size_ended, size_refused, size_stopped}
use Rattle.book_reports.proofs.detail_lengths.details_length.Goals as goal

-- the centre is not there
pub returns-in_err-through : goal.returns-in_err-through
returns-in_err-through g c =
    let report = c.args.report in
    let naming = (g.L.Ledger.seen c.args.ledger.now).naming in
    call_failed c.from_residual.result c.from_residual.ensures.1 (λ book. refl) (λ book. refl)
    (λ book is. ap (shown_by length)
    (is_shut (begun_in report.period book.rulings) report.centre (closed_through book report.period)
    (details_answer report naming book) is))
    c.in_err-through.ensures.through

-- the details are refused
pub returns-in_err-counted : goal.returns-in_err-counted
returns-in_err-counted g c =
    rw (passed_on c.from_residual-in_err-counted.result c.from_residual-in_err-counted.ensures.1)
    (size_refused c.args.report c.in_ok-through.ensures.through c.in_err-counted.ensures
    c.in_err-counted.field-0.0 refl)

-- there is no memory for what stands above
pub returns-in_err-above : goal.returns-in_err-above
returns-in_err-above g c =
    rw (passed_on c.from_residual-in_err-above.result c.from_residual-in_err-above.ensures.1)
    (size_stopped c.args.report c.in_ok-through.ensures.through c.in_ok-counted.ensures
    c.in_ok-counted.counted refl)

-- or so many bytes there are
pub returns : goal.returns
returns g c =
    size_ended c.args.report c.in_ok-through.ensures.through c.in_ok-counted.ensures
    c.in_ok-counted.counted refl c.size_in_all.result c.in_ok-above.above c.in_ok-above.ensures
    c.size_in_all.ensures.whole c.size_in_all.ensures.fault
