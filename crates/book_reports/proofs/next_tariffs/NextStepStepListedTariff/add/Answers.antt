use Rattle.std.proofs.Common.{◌∙◌, Option, ℤ, ap, map, sym}
use Rattle.book_model.proofs.Lemmas.{day_kept}
use Rattle.report_texts.specs.Figures.{next_begin}
use Rattle.book_reports.specs.NextTariffs.{next_with}
use Rattle.book_reports.proofs.NextTariffLemmas.{next_more}
use Rattle.book_reports.proofs.Words.{map_push, tariff_shown}
use Rattle.book_reports.proofs.next_tariffs.NextStepStepListedTariff.add.Goals as goal

-- with one more tariff
pub returns-clause-added : goal.returns-clause-added
returns-clause-added c tariffs is =
    let day = c.args.self.now.day in
    let tariff = c.args.tariff.now in
    let read = map tariff_shown tariffs in
    (rw (day_kept tariff.day c.requires) at c.next_with.ensures)
    ∙ ap (λ (found : Option ℤ). next_with found day tariff.day) is
    ∙ sym (next_more day read tariff.day _)
    ∙ ap (next_begin day) (map_push tariff_shown tariffs tariff)
