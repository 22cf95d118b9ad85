use Rattle.std.proofs.Common.{◌∙◌, Ok, ap, refl, sym}
use Rattle.report_texts.specs.Figures.{record_count}
use Rattle.book_reports.proofs.Words.{call_failed, read_as, same_value}
use Rattle.book_reports.proofs.figures.count_of_period.Goals as goal

pub returns-in_err-rows : goal.returns-in_err-rows
returns-in_err-rows g c =
    call_failed c.from_residual.result c.from_residual.ensures.1 (λ book. refl) (λ book. refl)
    (λ book is. cc is) c.in_err-rows.ensures.rows

pub returns : goal.returns
returns g c =
    read_as (λ book. refl) (λ book. refl) (record { reopen = refl; store = refl })
    (λ book said. ap (λ rows. Ok (record_count rows)) (same_value said)
    ∙ ap Ok (sym (c.record_count.ensures ∙ ap record_count c.deref.ensures.value)))
    c.in_ok-rows.ensures.rows
