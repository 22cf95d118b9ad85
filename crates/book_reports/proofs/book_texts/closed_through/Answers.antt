use Rattle.std.proofs.Common.{◌≡◌, ◌∙◌, refl, sym, ap, Ok}
use Rattle.book_model.specs.Words.{close_of}
use Rattle.book_reports.proofs.Words.{call_failed, read_as, shown_by}
use Rattle.book_reports.proofs.book_texts.closed_through.Goals as goal

pub returns-in_err-days-clause-through : goal.returns-in_err-days-clause-through
returns-in_err-days-clause-through g c =
    call_failed c.from_residual.result c.from_residual.ensures.1 (λ book. refl) (λ book. refl)
    (λ book is. cc is) c.in_err-days.ensures.days

pub returns-clause-through : goal.returns-clause-through
returns-clause-through g c =
    let found : c.close_of.result ≡ close_of c.args.period c.in_ok-days.days.items =
    c.close_of.ensures.close ∙ (λ i. close_of (c.from.ensures i) (c.deref.ensures.value i)) in
    read_as (λ book. refl) (λ book. refl) (record { reopen = refl; store = refl })
    (λ book is. ap (shown_by (close_of c.args.period)) is ∙ ap Ok (sym found))
    c.in_ok-days.ensures.days
