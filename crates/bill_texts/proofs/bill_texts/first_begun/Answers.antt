use Rattle.std.proofs.Common.{◌∙◌, sym}
use Rattle.book_model.specs.declared.bill.BilledTariff.{BilledTariff}
use Rattle.book_model.specs.Words.{IsDay}
use Rattle.bill_texts.proofs.FoundLemmas.{found_as_all}
use Rattle.bill_texts.proofs.bill_texts.first_begun.Goals as goal

-- the first tariff begins on a day, as all do
pub begun_on-requires : goal.begun_on-requires
begun_on-requires c tariff is =
    found_as_all (λ (one : BilledTariff). IsDay one.day) c.args.tariffs.now c.requires 0 tariff
    (sym c.first_tariff.ensures ∙ is)
