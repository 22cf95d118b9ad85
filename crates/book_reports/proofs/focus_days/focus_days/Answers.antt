use Rattle.std.proofs.Common.{◌-◌, ◌∙◌, length, sym}
use Rattle.book_model.specs.Words.{IsDay}
use Rattle.bill_texts.proofs.FoundLemmas.{found_as_all}
use Rattle.book_reports.proofs.Words.{BilledTariff, ChargeRow}
use Rattle.book_reports.proofs.focus_days.focus_days.Goals as goal

-- the first tariff begins on a day, as all do
pub begins_on-begins-requires-clause-first : goal.begins_on-begins-requires-clause-first
begins_on-begins-requires-clause-first c tariff is =
    found_as_all (λ (one : BilledTariff). IsDay one.day) c.args.kept.now.tariffs.items
    c.requires.tariffs 0 tariff (sym c.first_tariff-first.ensures ∙ is)

-- and so it is with the newest row
pub last_on-last-requires-clause-newest : goal.last_on-last-requires-clause-newest
last_on-last-requires-clause-newest c row is =
    found_as_all (λ (one : ChargeRow). IsDay one.day) c.args.rows.now c.requires.rows.days
    (length c.args.rows.now - 1) row (sym c.newest_row-newest.ensures ∙ is)
