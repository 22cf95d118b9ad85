use Rattle.std.proofs.Common.{◌∙◌, Ok, ap, refl, sym}
use Rattle.book_reports.specs.PeriodDays.{days_by}
use Rattle.book_reports.proofs.Words.{call_failed, read_as, same_value}
use Rattle.book_reports.proofs.period_days.period_days.Goals as goal

pub returns-in_err-closes-clause-days : goal.returns-in_err-closes-clause-days
returns-in_err-closes-clause-days g c =
    call_failed c.from_residual.result c.from_residual.ensures.1 (λ book. refl) (λ book. refl)
    (λ book is. cc is) c.in_err-closes.ensures.days

pub returns-clause-days : goal.returns-clause-days
returns-clause-days g c =
    read_as (λ book. refl) (λ book. refl) (record { reopen = refl; store = refl })
    (λ book said. ap (λ closes. Ok (days_by c.args.number closes)) (same_value said)
    ∙ ap Ok (sym (c.days_by.ensures.days ∙ ap (days_by c.args.number) c.deref.ensures.value)))
    c.in_ok-closes.ensures.days
