use Rattle.std.proofs.Common.{Ok, ap, refl, subst, sym}
use Rattle.report_texts.specs.Figures.{figures_with}
use Rattle.book_reports.proofs.Words.{Figures, Tells, call_failed, read_then, same_value}
use Rattle.book_reports.proofs.figures.period_figures.Goals as goal

pub returns-in_err-rows : goal.returns-in_err-rows
returns-in_err-rows g c =
    call_failed c.from_residual.result c.from_residual.ensures.1 (λ book. refl) (λ book. refl)
    (λ book is. cc is) c.in_err-rows.ensures.rows

-- the rows were read, and then what else there is: all from one book
pub returns : goal.returns
returns g c =
    let call = c.in_ok-rows.ensures.rows in
    let naming = (g.L.Ledger.seen c.args.ledger.now).naming in
    read_then (λ book. refl) (λ book. refl) (λ book. refl) (record { reopen = refl; store = refl })
    (λ book early. subst (Tells (λ (figures : Figures). figures) c.figures_with.result)
    (ap (λ rows. Ok (figures_with naming c.args.ruling c.args.period rows book)) (sym (same_value early))))
    call (rw (call.work.naming, c.deref.ensures.value) at c.figures_with.ensures)
