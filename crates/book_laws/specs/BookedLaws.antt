-- Laws of the sums of bills: what the office books is what its centres' bills book, and what came late
-- and what was reversed are the sums of their lines.
use Rattle.std.specs.Prelude.{◌≡◌, ℕ, true, false, List, filter, map, sum_by, Some, None}
use Rattle.book_model.specs.declared.line.Line.{Line}
use Rattle.book_model.specs.Words.{Book, Naming, Period, bill_of}
use Rattle.report_texts.specs.AdjustmentLists.{charged_amount, reversed_amount}
use Rattle.report_texts.specs.Charges.{all_charges, centres_on}
use Rattle.bill_texts.specs.Booked.{booked_by_office, booked_of_all, owed_of}
use Rattle.bill_texts.specs.RecordRows.{is_side}

-- what the office books is the sum of what the bills of its centres do
abbrev pub BookedAddUp : Type 0
BookedAddUp =
    (naming : Naming) (book : Book) (number : ℕ) (period : Period) (unit : ℕ)
    → let office = bill_of naming book number None period in
    booked_by_office unit office
    ≡ booked_of_all unit
    (map (λ centre. owed_of (all_charges (bill_of naming book number (Some centre) period)))
    (centres_on office))

-- the sums that a bill has of what came late and of what was reversed are those of its two parts
pub record LinesAddUp : Type 0 where
  pub late : (lines : List Line)
      → sum_by (λ line. line.priced.amount) (filter (λ line. is_side true line) lines)
      ≡ sum_by charged_amount lines
  pub reversed : (lines : List Line)
      → sum_by (λ line. line.priced.amount) (filter (λ line. is_side false line) lines)
      ≡ sum_by reversed_amount lines
