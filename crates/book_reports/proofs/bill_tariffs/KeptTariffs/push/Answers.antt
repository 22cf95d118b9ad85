use Rattle.std.proofs.Common.{◌∙◌, w32}
use Rattle.std.proofs.lemmas.Int.{to_z-of_z}
use Rattle.tariff_rules.proofs.HeadedLemmas.{tariff_of_text}
use Rattle.book_reports.proofs.KeptTariffLemmas.{kept_push}
use Rattle.book_reports.proofs.bill_tariffs.KeptTariffs.push.Goals as goal

pub returns-clause-pushed : goal.returns-clause-pushed
returns-clause-pushed c = λ read kept.
    let day = to_z-of_z w32 c.args.day c.ranges.day in
    let terms = c.in_ok-headed.ensures.tariff ∙ tariff_of_text c.args.text.now in
    kept_push c.args.day c.args.text.now c.requires
    (rw (day, terms) at c.in_ok-push_found.ensures.tariffs)
    (rw (day, terms) at c.in_ok-push_found.ensures.shifts)
    c.in_ok-headed.ensures.letterhead kept
