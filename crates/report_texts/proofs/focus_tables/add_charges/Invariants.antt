use Rattle.std.proofs.Common.{◌≡◌, ◌++◌, take}
use Rattle.std.specs.List.{flat_map}
use Rattle.report_texts.specs.FocusTables.{ChargeSeen, head_shown, row_line}
use Rattle.report_texts.proofs.focus_tables.add_charges.Given as goal

-- the rows so far are there
abbrev pub invariant-loop-row : goal.invariant-loop-row
invariant-loop-row l =
    l.table ≡ l.initial.table
    ++ flat_map (λ row. row_line (head_shown l.head) (ChargeSeen row)) (take l.row-index l.rows)
