use Rattle.std.proofs.Common.{◌∙◌, Ok, Option, ℤ, ap, refl, sym, w32}
use Rattle.book_model.proofs.Std.{to_z-of_z}
use Rattle.report_texts.specs.Figures.{record_count_under}
use Rattle.book_reports.proofs.Words.{call_failed, read_as, same_value}
use Rattle.book_reports.proofs.figures.count_priced.Goals as goal

pub returns-in_err-next : goal.returns-in_err-next
returns-in_err-next g c =
    call_failed c.from_residual.result c.from_residual.ensures.1 (λ book. refl) (λ book. refl)
    (λ book is. cc is) c.in_err-next.ensures

pub returns : goal.returns
returns g c =
    let first = to_z-of_z w32 c.args.first c.ranges.first in
    let rows = c.args.rows.now in
    let made = (rw first at c.record_count_under.ensures) in
    read_as (λ book. refl) (λ book. refl) (record { reopen = refl; store = refl })
    (λ book said. ap (λ (next : Option ℤ). Ok (record_count_under c.args.first next rows))
    (same_value said) ∙ ap Ok (sym made))
    (rw first at c.in_ok-next.ensures)
