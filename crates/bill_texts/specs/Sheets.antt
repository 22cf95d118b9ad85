-- A bill as a sheet: parts of rows of fields, which its text and its page show alike.
use Rattle.std.specs.Prelude.{ℕ, List, [], ◌∷◌, unwrap_or, Option}
use Rattle.csv.specs.Records.{field_at}
use Rattle.bill_texts.specs.declared.column.Column.{Column}
use Rattle.bill_texts.specs.declared.column.Column.TheVariants.{Below, Figure, First, Number, Word}
use Rattle.bill_texts.specs.declared.part.CentreParts.{CentreParts}
use Rattle.bill_texts.specs.declared.part.Layout.{Layout}
use Rattle.bill_texts.specs.declared.part.Layout.TheVariants as laid
use Rattle.bill_texts.specs.declared.part.Part.{Part}
use Rattle.bill_texts.specs.declared.part.PartName.{PartName}
use Rattle.bill_texts.specs.declared.part.Sheet.{Sheet}

-- a row: the texts of its fields
abbrev pub Fields : Type 0
Fields = List (List ℕ)

-- the text at a place of a row, from 0; none where the row ends before
unfoldable pub text_at : Fields → ℕ → List ℕ
text_at row place = unwrap_or (field_at row place) []

-- where the fields of rows stand, and how wide a text has them: with the blanks between them a line
-- of sums is 86 wide, and one of work or of a record 100
abbrev pub sums_columns : List Column
sums_columns =
    First 0 16 ∷ Figure 1 13 ∷ Figure 2 13 ∷ Figure 3 13 ∷ Figure 4 13 ∷ Figure 5 13 ∷ []

-- with a column of what is credited it is as wide as the others
abbrev pub credited_columns : List Column
credited_columns =
    First 0 16 ∷ Figure 1 13 ∷ Figure 2 13 ∷ Figure 3 13 ∷ Figure 6 13 ∷ Figure 4 13
    ∷ Figure 5 13 ∷ []

abbrev pub price_columns : List Column
price_columns = First 0 10 ∷ Word 1 16 ∷ Figure 2 18 ∷ Figure 3 15 ∷ Figure 4 15 ∷ []

abbrev pub percent_columns : List Column
percent_columns = First 0 10 ∷ Word 1 16 ∷ Figure 2 7 ∷ []

abbrev pub work_columns : List Column
work_columns =
    First 0 10 ∷ Word 1 16 ∷ Figure 2 7 ∷ Figure 3 10 ∷ Figure 4 15 ∷ Figure 5 15
    ∷ Figure 6 21 ∷ []

abbrev pub record_columns : List Column
record_columns =
    First 0 10 ∷ Word 1 16 ∷ Word 2 8 ∷ Word 3 8 ∷ Word 4 8 ∷ Number 5 5 ∷ Number 6 6
    ∷ Figure 7 32 ∷ Below 8 ∷ []

abbrev pub credit_columns : List Column
credit_columns = First 0 78 ∷ Figure 1 21 ∷ []

unfoldable pub columns_of : Layout → List Column
columns_of laid.Sums = sums_columns
columns_of laid.CreditedSums = credited_columns
columns_of laid.Prices = price_columns
columns_of laid.Percents = percent_columns
columns_of laid.Work = work_columns
columns_of laid.Counts = work_columns
columns_of laid.Records = record_columns
columns_of laid.Credits = credit_columns

-- a part: its rows, and the row of their sums, where there is one
pub record PartSeen : Type 0 where
  pub name : PartName
  pub layout : Layout
  pub rows : List Fields
  pub total : Option Fields

-- the same as it is made
abbrev pub part_shown : Part → PartSeen
part_shown part = record {
  name = part.name;
  layout = part.layout;
  rows = part.rows.items;
  total = part.total;
}

-- what stands on each bill: the sums, the prices and the percents
pub record SheetSeen : Type 0 where
  pub sums : PartSeen
  pub prices : PartSeen
  pub percents : PartSeen

abbrev pub sheet_shown : Sheet → SheetSeen
sheet_shown sheet = record {
  sums = part_shown sheet.sums;
  prices = part_shown sheet.prices;
  percents = part_shown sheet.percents;
}

-- and what the sums of a centre are made of
pub record PartsSeen : Type 0 where
  pub steps_by_shift : PartSeen
  pub jobs_by_shift : PartSeen
  pub steps_by_day : PartSeen
  pub jobs_by_day : PartSeen
  pub late : PartSeen
  pub reversed : PartSeen
  pub credits : PartSeen

abbrev pub parts_shown : CentreParts → PartsSeen
parts_shown parts = record {
  steps_by_shift = part_shown parts.steps_by_shift;
  jobs_by_shift = part_shown parts.jobs_by_shift;
  steps_by_day = part_shown parts.steps_by_day;
  jobs_by_day = part_shown parts.jobs_by_day;
  late = part_shown parts.late;
  reversed = part_shown parts.reversed;
  credits = part_shown parts.credits;
}
