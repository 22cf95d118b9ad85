-- The rows of prices and of percents: what stands on a bill of its tariffs.
use Rattle.std.specs.Prelude.{ℕ, ℤ, List, [], ◌∷◌, codes, flat_map, map, None}
use Rattle.std.specs.Fmt.{decimal}
use Rattle.tariff_rules.specs.Terms.{RatesOf}
use Rattle.book_model.specs.declared.bill.BilledShift.{BilledShift}
use Rattle.book_model.specs.declared.bill.BilledTariff.{BilledTariff}
use Rattle.book_model.specs.Words.{day_text_of}
use Rattle.report_texts.specs.Columns.{amount_text}
use Rattle.bill_texts.specs.declared.part.Layout.TheVariants as laid
use Rattle.bill_texts.specs.declared.part.PartName.TheVariants as named
use Rattle.bill_texts.specs.Sheets.{Fields, PartSeen}

-- the prices of a record, of a CPU second and of 1,000 blocks, each in the column of what it
-- multiplies
unfoldable pub price_fields : ℤ → List ℕ → RatesOf → Fields
price_fields day word rates =
    day_text_of day ∷ word ∷ amount_text rates.record_fee ∷ amount_text rates.cpu
    ∷ amount_text rates.excp ∷ []

-- those of steps and those of jobs
abbrev pub tariff_rows : BilledTariff → List Fields
tariff_rows tariff =
    price_fields tariff.day (codes "STEP") tariff.step
    ∷ price_fields tariff.day (codes "JOB") tariff.job ∷ []

abbrev pub prices_part : List BilledTariff → PartSeen
prices_part tariffs = record {
  name = named.Prices;
  layout = laid.Prices;
  rows = flat_map tariff_rows tariffs;
  total = None;
}

-- a shift of a tariff, and its percent
unfoldable pub percent_fields : BilledShift → Fields
percent_fields shift = day_text_of shift.day ∷ shift.shift ∷ decimal shift.percent ∷ []

abbrev pub percents_part : List BilledShift → PartSeen
percents_part shifts = record {
  name = named.Percents;
  layout = laid.Percents;
  rows = map percent_fields shifts;
  total = None;
}
