-- The rows of sums: of a centre, of each centre of the office, and of all.
use Rattle.std.specs.Prelude.{ℕ, ◌+◌, Bool, if◌then◌else◌, List, [], ◌∷◌, codes, map, Some, None}
use Rattle.report_texts.specs.Charges.{credits_text, owed_text}
use Rattle.report_texts.specs.Columns.{amount_text}
use Rattle.report_texts.specs.declared.charges.CentreCharges.{CentreCharges}
use Rattle.report_texts.specs.declared.charges.Charges.{Charges}
use Rattle.bill_texts.specs.declared.part.Layout.{Layout}
use Rattle.bill_texts.specs.declared.part.Layout.TheVariants as laid
use Rattle.bill_texts.specs.declared.part.PartName.TheVariants as named
use Rattle.bill_texts.specs.Booked.{booked, booked_of_all, booked_text, owed_by, owed_of, unit_of}
use Rattle.bill_texts.specs.Sheets.{Fields, PartSeen}

-- a word, what is charged for steps and for jobs together, what came late, what was reversed, what is
-- owed, what is booked, and what is credited
abbrev pub sums_fields : List ℕ → Charges → List ℕ → Fields
sums_fields word charges booked =
    word ∷ amount_text (charges.steps + charges.jobs) ∷ amount_text charges.late
    ∷ amount_text charges.reversed ∷ owed_text charges ∷ booked ∷ credits_text charges ∷ []

-- the row of a centre
unfoldable pub centre_fields : ℕ → CentreCharges → Fields
centre_fields decimals own =
    sums_fields own.centre own.charges
    (booked_text decimals (booked (unit_of decimals) (owed_of own.charges)))

-- the row of all: what the office books is the sum of what its centres' bills do
unfoldable pub total_fields : ℕ → List CentreCharges → Charges → Fields
total_fields decimals each all =
    sums_fields (codes "TOTAL") all
    (booked_text decimals (booked_of_all (unit_of decimals) (map owed_by each)))

-- what is credited has a column where some credit stands on the bill
abbrev pub sums_layout : Bool → Layout
sums_layout credited = if credited then laid.CreditedSums else laid.Sums

-- the sums of a centre's bill, and those of the office's
abbrev pub centre_sums : Bool → ℕ → CentreCharges → PartSeen
centre_sums credited decimals own = record {
  name = named.Sums;
  layout = sums_layout credited;
  rows = centre_fields decimals own ∷ [];
  total = None;
}

abbrev pub office_sums : Bool → ℕ → List CentreCharges → Charges → PartSeen
office_sums credited decimals each all = record {
  name = named.Sums;
  layout = sums_layout credited;
  rows = map (centre_fields decimals) each;
  total = Some (total_fields decimals each all);
}
