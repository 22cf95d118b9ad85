use Rattle.std.proofs.Common.{◌∙◌, Ok, ap, refl, sym}
use Rattle.book_lists.specs.TariffsInTurn.{tariff_among}
use Rattle.book_lists.proofs.ReadingLemmas.{call_failed, read_as}
use Rattle.book_lists.proofs.WritingLemmas.{same_value}
use Rattle.book_lists.proofs.tariff_cursors.tariff_at.Goals as goal

-- the ruling is refused
pub returns-in_err-ruling-clause-tariff : goal.returns-in_err-ruling-clause-tariff
returns-in_err-ruling-clause-tariff g c =
    call_failed c.from_residual.result c.from_residual.ensures.1 (λ book. refl) (λ book. refl)
    (λ book is. cc is) c.in_err-ruling.ensures.ruling

-- it is a tariff, or there are no more
pub returns-clause-tariff : goal.returns-clause-tariff
returns-clause-tariff g c =
    read_as (λ book. refl) (λ book. refl) (record { reopen = refl; store = refl })
    (λ book said. ap (λ found. Ok (tariff_among found)) (same_value said)
    ∙ ap Ok (sym c.tariff_in.ensures.tariff))
    c.in_ok-ruling.ensures.ruling
