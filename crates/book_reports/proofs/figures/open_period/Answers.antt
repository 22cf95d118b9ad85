use Rattle.std.proofs.Common.{◌∙◌, Ok, ap, refl, sym}
use Rattle.book_reports.specs.Figures.{period_after}
use Rattle.book_reports.proofs.Words.{call_failed, read_as, same_value}
use Rattle.book_reports.proofs.figures.open_period.Goals as goal

pub returns-in_err-closes-clause-period : goal.returns-in_err-closes-clause-period
returns-in_err-closes-clause-period g c =
    call_failed c.from_residual.result c.from_residual.ensures.1 (λ book. refl) (λ book. refl)
    (λ book is. cc is) c.in_err-closes.ensures.days

pub returns-clause-period : goal.returns-clause-period
returns-clause-period g c =
    read_as (λ book. refl) (λ book. refl) (record { reopen = refl; store = refl })
    (λ book said. ap (λ closes. Ok (period_after closes)) (same_value said)
    ∙ ap Ok (sym (c.period_after.ensures.period ∙ ap period_after c.deref.ensures.value)))
    c.in_ok-closes.ensures.days
