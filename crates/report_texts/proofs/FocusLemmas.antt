-- The lines of a table of cost and usage: those of charge rows, and then those of adjustment lines.
use Rattle.std.proofs.Common.{◌≡◌, ◌∙◌, ℕ, List, [], ◌∷◌, ◌++◌, append_assoc, ap, map, refl, sym}
use Rattle.std.proofs.Common.{flat_map}
use Rattle.report_texts.proofs.Words.{Line, ChargeRow, LineSeen}
use Rattle.report_texts.specs.FocusTables.{ChargeSeen, FocusRow, focus_rows}

module _ (shown : FocusRow → List ℕ) where
  of_lines : (lines : List Line)
      → flat_map shown (map LineSeen lines) ≡ flat_map (λ line. shown (LineSeen line)) lines
  of_lines [] = refl
  of_lines (line ∷ lines) = ap (λ rest. shown (LineSeen line) ++ rest) (of_lines lines)

  pub rows_in_turn : (rows : List ChargeRow) (lines : List Line)
      → flat_map shown (focus_rows rows lines)
      ≡ flat_map (λ row. shown (ChargeSeen row)) rows
      ++ flat_map (λ line. shown (LineSeen line)) lines
  rows_in_turn [] lines = of_lines lines
  rows_in_turn (row ∷ rows) lines =
      ap (λ rest. shown (ChargeSeen row) ++ rest) (rows_in_turn rows lines)
      ∙ sym (append_assoc (shown (ChargeSeen row)) (flat_map (λ row. shown (ChargeSeen row)) rows)
      (flat_map (λ line. shown (LineSeen line)) lines))
