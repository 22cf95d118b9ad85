use Rattle.std.proofs.Common.{◌∙◌, Option, ℤ, ap, map, w32}
use Rattle.book_model.proofs.Std.{to_z-of_z}
use Rattle.report_texts.specs.Figures.{next_begin}
use Rattle.book_reports.proofs.Words.{folded, tariff_shown}
use Rattle.book_reports.proofs.next_tariffs.next_tariff.Goals as goal

pub returns : goal.returns
returns g c =
    folded (λ (found : Option ℤ). found) (next_begin c.args.day) c.fold.ensures
    (λ found tariffs is.
    is ∙ ap (λ (day : ℤ). next_begin day (map tariff_shown tariffs))
    (to_z-of_z w32 c.args.day c.ranges.day))
