-- The rows of credits: the reason of each, and its amount.
use Rattle.std.specs.Prelude.{List, [], ◌∷◌, codes, map, Some}
use Rattle.book_model.specs.Words.{Credit}
use Rattle.report_texts.specs.AdjustmentLists.{signed_text}
use Rattle.report_texts.specs.Charges.{credits_text, plain_credit}
use Rattle.report_texts.specs.declared.charges.Charges.{Charges}
use Rattle.bill_texts.specs.declared.part.Layout.TheVariants as laid
use Rattle.bill_texts.specs.declared.part.PartName.TheVariants as named
use Rattle.bill_texts.specs.Sheets.{Fields, PartSeen}

-- the row of a credit
unfoldable pub credit_fields : Credit → Fields
credit_fields credit =
    let plain = plain_credit credit in
    credit.reason ∷ signed_text plain.credited plain.debited ∷ []

-- the row of their sum, which stands in the line of sums too
abbrev pub credit_sum : Charges → Fields
credit_sum charges = codes "TOTAL" ∷ credits_text charges ∷ []

abbrev pub credits_part : List Credit → Charges → PartSeen
credits_part credits charges = record {
  name = named.Credits;
  layout = laid.Credits;
  rows = map credit_fields credits;
  total = Some (credit_sum charges);
}
