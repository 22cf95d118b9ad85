-- The law of the table of cost and usage: its rows cost what is owed, before credits.
use Rattle.std.specs.Prelude.{◌≡◌, ℕ, ℤ, pos, ◌+ℤ◌, ◌-ℤ◌, not, List, [], ◌∷◌, filter, sum_by}
use Rattle.std.specs.Prelude.{Option, Some, None}
use Rattle.book_model.specs.declared.line.Line.{Line}
use Rattle.book_model.specs.declared.row.ChargeRow.{ChargeRow}
use Rattle.book_model.specs.Words.{BillSeen, Book, IsSound, Naming, Period, bill_of, lines_of}
use Rattle.book_model.specs.Words.{period_of, rows_for, same_bytes}
use Rattle.report_texts.specs.AdjustmentLists.{charged_amount, reversed_amount}
use Rattle.report_texts.specs.Charges.{all_charges}
use Rattle.report_texts.specs.FocusTables.{FocusRow, focus_rows, is_correction, place_of, row_cost}
use Rattle.book_laws.specs.BillLaws.{lines_asked, rows_asked}
use Rattle.book_laws.specs.CreditAmounts.{owed_before}

-- what several rows cost together
abbrev pub cost_of_all : List FocusRow → ℤ
cost_of_all [] = pos 0
cost_of_all (row ∷ others) = row_cost row +ℤ cost_of_all others

-- of the rows of a table, those of the centre that is named, or all of them where none is
abbrev pub focus_asked : Option (List ℕ) → List FocusRow → List FocusRow
focus_asked None table = table
focus_asked (Some centre) table = filter (λ row. same_bytes (place_of row).centre centre) table

-- Rows of a table cost what this bill says is owed before its credits: those that correct nothing what
-- these charge rows come to, and the corrections what these lines do.
pub record IsOwed (table : List FocusRow) (bill : BillSeen) (rows : List ChargeRow)
    (lines : List Line) : Type 0 where
  pub owed : cost_of_all table ≡ owed_before (all_charges bill)
  pub charged : cost_of_all (filter (λ row. not (is_correction row)) table)
      ≡ pos (sum_by (λ row. row.amount) rows)
  pub corrected : cost_of_all (filter is_correction table)
      ≡ pos (sum_by charged_amount lines) -ℤ pos (sum_by reversed_amount lines)

-- In sound books the table of a period costs what its bill says is owed before credits, for the whole
-- office and for each centre: without corrections its statement, and of corrections its adjustments.
abbrev pub FocusIsOwed : Type 0
FocusIsOwed =
    (naming : Naming) (book : Book) (number : ℕ) (period : Period) (centre : Option (List ℕ))
    → IsSound naming book
    → period_of book number ≡ Some period
    → IsOwed
    (focus_asked centre
    (focus_rows (rows_for book.rulings period.counted) (lines_of naming book.rulings period)))
    (bill_of naming book number centre period)
    (rows_asked centre (rows_for book.rulings period.counted))
    (lines_asked centre (lines_of naming book.rulings period))
