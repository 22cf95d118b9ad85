-- What a period charges, as a table of cost and usage by FOCUS 1.0: a row for each charge row of its
-- statement, and then one for each of its adjustment lines.
use Rattle.std.specs.Prelude.{ℕ, ℤ, pos, ◌+ℤ◌, ◌-ℤ◌, Bool, true, false, List, [], ◌∷◌, ◌++◌}
use Rattle.std.specs.Prelude.{codes, flat_map, map}
use Rattle.std.specs.Fmt.{decimal}
use Rattle.hex.specs.Hex.{encode_lower}
use Rattle.book_model.specs.declared.line.Line.{Line}
use Rattle.book_model.specs.declared.row.ChargeRow.{ChargeRow}
use Rattle.book_model.specs.declared.row.RowKey.{RowKey}
use Rattle.book_model.specs.Words.{key_of}
use Rattle.report_texts.specs.AdjustmentLists.{charged_amount, reversed_amount, signed_text, word_of}
use Rattle.report_texts.specs.Columns.{seconds_text}
use Rattle.report_texts.specs.Midnights.{midnight_text}
use Rattle.report_texts.specs.Tables.{fields_line}
use Rattle.report_texts.specs.declared.focus_tables.FocusHead.{FocusHead}

-- who bills, in which currency, the day that the period begins on, and its last day
pub record HeadSeen : Type 0 where
  pub office : List ℕ
  pub currency : List ℕ
  pub begins : ℤ
  pub last : ℤ

abbrev pub head_shown : FocusHead → HeadSeen
head_shown head = record {
  office = head.office.now;
  currency = head.currency.now;
  begins = head.begins;
  last = head.last;
}

-- what has a row: a charge row, or an adjustment line
pub data FocusRow : Type 0 where
  ChargeSeen : ChargeRow → FocusRow
  LineSeen : Line → FocusRow

-- the rows of the one and of the other
abbrev pub focus_rows : List ChargeRow → List Line → List FocusRow
focus_rows rows lines = map ChargeSeen rows ++ map LineSeen lines

-- the day, the centre and the shift
abbrev pub place_of : FocusRow → RowKey
place_of (ChargeSeen row) = record { day = row.day; centre = row.centre; shift = row.shift }
place_of (LineSeen line) = key_of line.priced

-- what a row charges and what it takes back, in ten-thousandths of the money unit
abbrev pub row_charged : FocusRow → ℕ
row_charged (ChargeSeen row) = row.amount
row_charged (LineSeen line) = charged_amount line

abbrev pub row_reversed : FocusRow → ℕ
row_reversed (ChargeSeen row) = 0
row_reversed (LineSeen line) = reversed_amount line

-- what it costs
abbrev pub row_cost : FocusRow → ℤ
row_cost row = pos (row_charged row) -ℤ pos (row_reversed row)

-- it corrects what an earlier period charged
abbrev pub is_correction : FocusRow → Bool
is_correction (ChargeSeen row) = false
is_correction (LineSeen line) = true

-- how many records a charge row sums, and the record of a line
unfoldable pub records_text : ChargeRow → List ℕ
records_text row = codes "Records: " ++ decimal row.count

unfoldable pub record_text : Line → List ℕ
record_text line = codes "Record: " ++ encode_lower line.name

-- whether it charges what was used, or adds a record or takes it back
abbrev pub kind_text : FocusRow → List ℕ
kind_text (ChargeSeen row) = codes "CHARGE"
kind_text (LineSeen line) = word_of line.plus

-- the names of the columns
abbrev pub focus_columns : List (List ℕ)
focus_columns =
    codes "BillingAccountId" ∷ codes "BillingAccountName" ∷ codes "InvoiceIssuerName"
    ∷ codes "ProviderName" ∷ codes "PublisherName" ∷ codes "BillingCurrency"
    ∷ codes "BillingPeriodStart" ∷ codes "BillingPeriodEnd" ∷ codes "ServiceCategory"
    ∷ codes "ServiceName" ∷ codes "SubAccountId" ∷ codes "SubAccountName"
    ∷ codes "ChargePeriodStart" ∷ codes "ChargePeriodEnd" ∷ codes "ChargeCategory"
    ∷ codes "ChargeClass" ∷ codes "ChargeFrequency" ∷ codes "ChargeDescription"
    ∷ codes "ConsumedQuantity" ∷ codes "ConsumedUnit" ∷ codes "PricingQuantity"
    ∷ codes "PricingUnit" ∷ codes "BilledCost" ∷ codes "EffectiveCost" ∷ codes "ContractedCost"
    ∷ codes "ListCost" ∷ codes "Tags" ∷ []

-- who bills: the office, under each name that is asked for
unfoldable pub office_fields : List ℕ → List (List ℕ)
office_fields office = office ∷ office ∷ office ∷ office ∷ office ∷ []

-- in which currency, for which period, and what for
unfoldable pub period_fields : HeadSeen → List (List ℕ)
period_fields head =
    head.currency ∷ midnight_text head.begins ∷ midnight_text (head.last +ℤ pos 1)
    ∷ codes "Compute" ∷ codes "Batch processing" ∷ []

-- who is charged, for which day
unfoldable pub place_fields : List ℕ → ℤ → List (List ℕ)
place_fields centre day =
    centre ∷ centre ∷ midnight_text day ∷ midnight_text (day +ℤ pos 1) ∷ []

-- what a charge row is for, how much was used, and how much is charged: the same
unfoldable pub charge_usage : ChargeRow → List (List ℕ)
charge_usage row =
    codes "Usage" ∷ [] ∷ codes "Usage-Based" ∷ records_text row ∷ seconds_text row.cpu
    ∷ codes "CPU-Seconds" ∷ seconds_text row.cpu ∷ codes "CPU-Seconds" ∷ []

-- what a line is for; how much its record used is not said
unfoldable pub line_usage : Line → List (List ℕ)
line_usage line =
    codes "Usage" ∷ codes "Correction" ∷ codes "Usage-Based" ∷ record_text line ∷ [] ∷ [] ∷ []
    ∷ [] ∷ []

abbrev pub usage_fields : FocusRow → List (List ℕ)
usage_fields (ChargeSeen row) = charge_usage row
usage_fields (LineSeen line) = line_usage line

-- four times what it costs, since there are no discounts
unfoldable pub cost_fields : ℕ → ℕ → List (List ℕ)
cost_fields charged reversed =
    signed_text charged reversed ∷ signed_text charged reversed ∷ signed_text charged reversed
    ∷ signed_text charged reversed ∷ []

-- the shift and the kind of row, as JSON: neither has a character that is escaped there
unfoldable pub tags_text : List ℕ → List ℕ → List ℕ
tags_text shift kind =
    codes "{\"Shift\":\"" ++ shift ++ codes "\",\"Line\":\"" ++ kind ++ codes "\"}"

-- the line of a row
unfoldable pub row_line : HeadSeen → FocusRow → List ℕ
row_line head row =
    fields_line (office_fields head.office ++ period_fields head
    ++ place_fields (place_of row).centre (place_of row).day ++ usage_fields row
    ++ cost_fields (row_charged row) (row_reversed row)
    ++ tags_text (place_of row).shift (kind_text row) ∷ [])

-- the names of the columns, and a line for each row; there is no total
abbrev pub focus_table : HeadSeen → List FocusRow → List ℕ
focus_table head rows = fields_line focus_columns ++ flat_map (row_line head) rows
