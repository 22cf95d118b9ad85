use Rattle.std.proofs.Common.{◌≡◌, ◌++◌, take}
use Rattle.std.specs.List.{flat_map}
use Rattle.page_texts.specs.PeriodTables.{statement_row}
use Rattle.page_texts.proofs.period_statement.push_charge_rows.Given as goal

-- the rows so far are appended
abbrev pub invariant-loop-row : goal.invariant-loop-row
invariant-loop-row l =
    l.out
    ≡ l.initial.out ++ flat_map statement_row (take l.row-index l.rows)
