-- The rows of records: what came late, and what was reversed.
use Rattle.std.specs.Prelude.{ℕ, Bool, not, List, [], ◌∷◌, codes, flat_map, if◌then◌else◌, Some}
use Rattle.hex.specs.Hex.{encode_lower}
use Rattle.book_model.specs.declared.bill.BilledLine.{BilledLine}
use Rattle.book_model.specs.declared.line.Line.{Line}
use Rattle.book_model.specs.Words.{day_text_of, show_text}
use Rattle.report_texts.specs.Columns.{amount_text, number_text}
use Rattle.bill_texts.specs.declared.part.Layout.TheVariants as laid
use Rattle.bill_texts.specs.declared.part.PartName.{PartName}
use Rattle.bill_texts.specs.declared.part.PartName.TheVariants as named
use Rattle.bill_texts.specs.Sheets.{Fields, PartSeen}

-- where a record is charged, what it is of, the period that its line speaks of, its amount without a
-- sign, and its name
unfoldable pub record_fields : BilledLine → Fields
record_fields billed =
    let line = billed.line in
    day_text_of line.priced.day ∷ line.priced.shift ∷ show_text line.job
    ∷ show_text line.program ∷ show_text line.job_id ∷ number_text line.step
    ∷ number_text billed.period ∷ amount_text line.priced.amount ∷ encode_lower line.name ∷ []

-- a line came late, or was reversed
abbrev pub is_side : Bool → Line → Bool
is_side late line = if late then line.plus else not line.plus

unfoldable pub side_fields : Bool → BilledLine → List Fields
side_fields late billed = if is_side late billed.line then record_fields billed ∷ [] else []

-- the row of a sum
abbrev pub sum_fields : ℕ → Fields
sum_fields amount =
    codes "TOTAL" ∷ [] ∷ [] ∷ [] ∷ [] ∷ [] ∷ [] ∷ amount_text amount ∷ []

-- what came late, or what was reversed, with its sum
abbrev pub side_name : Bool → PartName
side_name late = if late then named.Late else named.Reversed

abbrev pub side_part : Bool → List BilledLine → ℕ → PartSeen
side_part late billed amount = record {
  name = side_name late;
  layout = laid.Records;
  rows = flat_map (side_fields late) billed;
  total = Some (sum_fields amount);
}
