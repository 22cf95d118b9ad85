use Rattle.std.proofs.Common.{◌∙◌, Global, Vec, ap, refl, sym, ℕ}
use Rattle.book_reports.proofs.Words.{call_failed, passed_on}
use Rattle.book_reports.proofs.RecordReportLemmas.{text_lost, text_made, trail_refused}
use Rattle.book_reports.proofs.record_reports.record_report.Goals as goal

-- the books can't be read
pub returns-in_err-entry : goal.returns-in_err-entry
returns-in_err-entry g c =
    call_failed c.from_residual.result c.from_residual.ensures.1 (λ book. refl) (λ book. refl)
    (λ book is. cc is) c.in_err-entry.ensures

-- no record has the name
pub returns-in_err-trail : goal.returns-in_err-trail
returns-in_err-trail g c =
    let exit = c.from_residual-in_err-trail in
    trail_refused c.args.name c.in_ok-entry.ensures exit.result exit.ensures.1
    c.in_err-trail.ensures.trail

-- there is no memory for its text
pub returns-in_err-text : goal.returns-in_err-text
returns-in_err-text g c =
    let exit = c.from_residual-in_err-text in
    rw (passed_on exit.result exit.ensures.1)
    (text_lost c.args.name c.in_ok-entry.ensures c.in_ok-trail.ensures.trail)

-- or it is made
pub returns : goal.returns
returns g c =
    text_made c.args.name c.in_ok-entry.ensures c.in_ok-trail.ensures.trail c.into_bytes.result
    (ap (λ (vec : Vec ℕ Global). vec.items) c.into_bytes.ensures.value ∙ c.in_ok-text.ensures)
