use Rattle.std.proofs.Common.{◌∙◌, SFits, ap, rules, w32}
use Rattle.book_model.proofs.Std.{to_z-of_z}
use Rattle.book_model.specs.Journal.{ChoiceOf, CreditOf, ReplacementOf, TariffOf}
use Rattle.plain_ledger.proofs.made_entries.place_of.Goals as goal

-- a tariff by the day of its text
pub returns-in_ok-tariff_day-in-Tariff : goal.returns-in_ok-tariff_day-in-Tariff
returns-in_ok-tariff_day-in-Tariff c =
    let day = c.in_ok-tariff_day-in-Tariff.field-0 in
    let fits : SFits w32 day = search rules in
    rw c.in-Tariff.is
    (ap TariffOf (to_z-of_z w32 day fits ∙ rw c.deref.ensures at c.in_ok-tariff_day-in-Tariff.ensures))

-- the others by how many came before
pub returns-in_ok-next_number-in-Choice : goal.returns-in_ok-next_number-in-Choice
returns-in_ok-next_number-in-Choice c =
    rw c.in-Choice.is (ap ChoiceOf c.in_ok-next_number-in-Choice.ensures)

pub returns-in_ok-next_number-in-Replacement : goal.returns-in_ok-next_number-in-Replacement
returns-in_ok-next_number-in-Replacement c =
    rw c.in-Replacement.is (ap ReplacementOf c.in_ok-next_number-in-Replacement.ensures)

pub returns-in_ok-next_number-in-Credit : goal.returns-in_ok-next_number-in-Credit
returns-in_ok-next_number-in-Credit c =
    rw c.in-Credit.is (ap CreditOf c.in_ok-next_number-in-Credit.ensures)
