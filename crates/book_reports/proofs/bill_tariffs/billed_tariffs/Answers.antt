use Rattle.std.proofs.Common.{Ok, ap, refl, subst, sym}
use Rattle.book_model.specs.Words.{tariffs_seen}
use Rattle.book_reports.proofs.Words.{Tells, call_failed, read_then, same_value, kept_of}
use Rattle.book_reports.proofs.Words.{tariffs_billed, tariffs_shown}
use Rattle.book_reports.proofs.bill_tariffs.billed_tariffs.Goals as goal

pub returns-in_err-days-clause-tariffs : goal.returns-in_err-days-clause-tariffs
returns-in_err-days-clause-tariffs g c =
    call_failed c.from_residual.result c.from_residual.ensures.1 (λ book. refl) (λ book. refl)
    (λ book is. cc is) c.in_err-days.ensures.days

-- the days were read, and then the tariffs: all from one book
pub returns-clause-tariffs : goal.returns-clause-tariffs
returns-clause-tariffs g c =
    read_then (λ book. refl) (λ book. refl) (λ book. refl) (record { reopen = refl; store = refl })
    (λ book early. subst (Tells tariffs_shown c.tariffs_on.result)
    (ap (λ days. Ok (tariffs_billed (kept_of days (tariffs_seen book.rulings.tariffs))))
    (sym (same_value early))))
    c.in_ok-days.ensures.days c.tariffs_on.ensures.tariffs
