use Rattle.std.proofs.Common.{◌∙◌, Err, Ok, ap, refl, if◌then◌else◌}
use Rattle.book_lists.proofs.ShownLemmas.{answers, answers_as, both_shown, refused_next, shown}
use Rattle.book_model.specs.declared.fault.LedgerFault.TheVariants.{NoSuchCentre}
use Rattle.book_reports.proofs.Words.{call_failed}
use Rattle.book_reports.proofs.KnownCentreLemmas.{there_told}
use Rattle.book_reports.proofs.known_centres.known_centre.Goals as goal

pub returns-in_err-days : goal.returns-in_err-days
returns-in_err-days g c =
    call_failed c.from_residual.result c.from_residual.ensures.1 (λ book. refl) (λ book. refl)
    (λ book is. cc is) c.in_err-days.ensures.days

pub returns-in_err-named : goal.returns-in_err-named
returns-in_err-named g c =
    refused_next c.from_residual-in_err-named.result c.from_residual-in_err-named.ensures.1
    (λ book. refl) (λ book. refl) (λ book known is. cc is)
    (shown (λ book. refl) c.in_ok-days.ensures.days) c.in_err-named.ensures

-- it is not there
pub returns-then-not-is_there : goal.returns-then-not-is_there
returns-then-not-is_there g c =
    answers_as (Err NoSuchCentre) (record { reopen = refl; store = refl }) (λ book. refl)
    (λ book known. ap (λ there. if there then Ok tt else Err NoSuchCentre)
    (there_told c.args.period c.args.centre c.in_ok-days.days c.in_ok-named.named c.is_there.result
    book known.first known.next c.is_there.ensures ∙ c.if-not-is_there.true))
    (both_shown (λ book. refl) (shown (λ book. refl) c.in_ok-days.ensures.days) c.in_ok-named.ensures)

-- or it is
pub returns : goal.returns
returns g c =
    answers tt (λ book. refl)
    (λ book known. ap (λ there. if there then Ok tt else Err NoSuchCentre)
    (there_told c.args.period c.args.centre c.in_ok-days.days c.in_ok-named.named c.is_there.result
    book known.first known.next c.is_there.ensures ∙ c.if-not-is_there.false))
    (both_shown (λ book. refl) (shown (λ book. refl) c.in_ok-days.ensures.days) c.in_ok-named.ensures)
