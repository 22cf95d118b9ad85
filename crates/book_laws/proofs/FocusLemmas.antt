-- The rows of a table of cost and usage cost what is owed.
use Rattle.std.proofs.Common.{◌≡◌, ℕ, ◌+◌, List, [], ◌∷◌, ◌++◌, refl, sym, ap, ◌∙◌, subst, map}
use Rattle.std.proofs.Common.{Bool, not, Option, Some, None, arith, filter, sum_by, pos, ◌+ℤ◌}
use Rattle.std.proofs.Common.{◌-ℤ◌}
use Rattle.book_model.specs.Words.{BillSeen, bill_of, lines_of, rows_for, same_bytes}
use Rattle.book_model.proofs.Lemmas.{filter-map}
use Rattle.book_model.proofs.Std.{filter-append, ints, sum_by-cons}
use Rattle.report_texts.specs.AdjustmentLists.{charged_amount, reversed_amount}
use Rattle.report_texts.specs.FocusTables.{ChargeSeen, FocusRow, LineSeen, focus_rows}
use Rattle.report_texts.specs.FocusTables.{is_correction, place_of, row_cost}
use Rattle.book_laws.specs.BillLaws.{lines_asked, rows_asked}
use Rattle.book_laws.specs.FocusLaws.{FocusIsOwed, IsOwed, cost_of_all, focus_asked}
use Rattle.book_laws.proofs.BillLemmas.{bills_split_statements, one_more_owed}
use Rattle.book_laws.proofs.Words.{ChargeRow, Line}

abbrev amount : ChargeRow → ℕ
amount row = row.amount

-- ---- what rows cost together

one_more_charged : (p x : ℕ) → (pos p -ℤ pos 0) +ℤ pos x ≡ pos (p + x)
one_more_charged p x = omega (arith, ints)

rows_cost : (rows : List ChargeRow)
    → cost_of_all (map ChargeSeen rows) ≡ pos (sum_by amount rows)
rows_cost [] = refl
rows_cost (row ∷ rows) =
    ap (λ rest. row_cost (ChargeSeen row) +ℤ rest) (rows_cost rows)
    ∙ one_more_charged (amount row) (sum_by amount rows)
    ∙ (λ i. pos (sym (sum_by-cons amount row rows) i))

lines_cost : (lines : List Line)
    → cost_of_all (map LineSeen lines)
    ≡ pos (sum_by charged_amount lines) -ℤ pos (sum_by reversed_amount lines)
lines_cost [] = refl
lines_cost (line ∷ lines) =
    ap (λ rest. row_cost (LineSeen line) +ℤ rest) (lines_cost lines)
    ∙ one_more_owed (charged_amount line) (reversed_amount line) (sum_by charged_amount lines)
    (sum_by reversed_amount lines)
    ∙ (λ i. pos (sym (sum_by-cons charged_amount line lines) i)
    -ℤ pos (sym (sum_by-cons reversed_amount line lines) i))

no_row_more : (x y : ℕ) → pos x -ℤ pos y ≡ pos (0 + x) -ℤ pos y
no_row_more x y = omega (arith, ints)

both_cost : (rows : List ChargeRow) (lines : List Line)
    → cost_of_all (focus_rows rows lines)
    ≡ pos (sum_by amount rows + sum_by charged_amount lines) -ℤ pos (sum_by reversed_amount lines)
both_cost [] lines =
    lines_cost lines ∙ no_row_more (sum_by charged_amount lines) (sum_by reversed_amount lines)
both_cost (row ∷ rows) lines =
    let late = sum_by charged_amount lines in
    let back = sum_by reversed_amount lines in
    let charged : amount row + (sum_by amount rows + late) ≡ sum_by amount (row ∷ rows) + late =
    let all = sum_by-cons amount row rows in omega arith in
    let reversed : 0 + back ≡ back = omega arith in
    ap (λ rest. row_cost (ChargeSeen row) +ℤ rest) (both_cost rows lines)
    ∙ one_more_owed (amount row) 0 (sum_by amount rows + late) back
    ∙ (λ i. pos (charged i) -ℤ pos (reversed i))

-- ---- which rows they are

-- those that correct nothing are those of charge rows
uncorrected : (rows : List ChargeRow) (lines : List Line)
    → filter (λ row. not (is_correction row)) (focus_rows rows lines) ≡ map ChargeSeen rows
uncorrected [] [] = refl
uncorrected [] (line ∷ lines) = uncorrected [] lines
uncorrected (row ∷ rows) lines = ap (λ rest. ChargeSeen row ∷ rest) (uncorrected rows lines)

-- and the corrections those of lines
corrections : (rows : List ChargeRow) (lines : List Line)
    → filter is_correction (focus_rows rows lines) ≡ map LineSeen lines
corrections [] [] = refl
corrections [] (line ∷ lines) = ap (λ rest. LineSeen line ∷ rest) (corrections [] lines)
corrections (row ∷ rows) lines = corrections rows lines

-- those that are asked for are of the rows and lines that are
asked_apart : (centre : Option (List ℕ)) (rows : List ChargeRow) (lines : List Line)
    → focus_asked centre (focus_rows rows lines)
    ≡ focus_rows (rows_asked centre rows) (lines_asked centre lines)
asked_apart None rows lines = refl
asked_apart (Some centre) rows lines =
    let its : FocusRow → Bool = λ row. same_bytes (place_of row).centre centre in
    filter-append its (map ChargeSeen rows) (map LineSeen lines)
    ∙ (λ i. filter-map its ChargeSeen rows i ++ filter-map its LineSeen lines i)

-- the law
pub focus_is_owed : FocusIsOwed
focus_is_owed naming book number period centre sound is =
    let all_rows : List ChargeRow = rows_for book.rulings period.counted in
    let all_lines : List Line = lines_of naming book.rulings period in
    let rows : List ChargeRow = rows_asked centre all_rows in
    let lines : List Line = lines_asked centre all_lines in
    let bill : BillSeen = bill_of naming book number centre period in
    let split = bills_split_statements naming book number period centre sound is in
    subst (λ table. IsOwed table bill rows lines) (sym (asked_apart centre all_rows all_lines))
    (record {
      owed =
          both_cost rows lines
          ∙ (λ i. pos (sym split.amount i + sum_by charged_amount (sym split.adjustments i))
          -ℤ pos (sum_by reversed_amount (sym split.adjustments i)));
      charged = ap (λ table. cost_of_all table) (uncorrected rows lines) ∙ rows_cost rows;
      corrected = ap (λ table. cost_of_all table) (corrections rows lines) ∙ lines_cost lines;
    })
