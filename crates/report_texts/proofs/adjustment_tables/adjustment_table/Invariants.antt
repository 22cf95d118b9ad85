use Rattle.std.proofs.Common.{◌≡◌, ◌++◌, take, flat_map}
use Rattle.report_texts.specs.AdjustmentTables.{line_fields, line_heading}
use Rattle.report_texts.specs.Tables.{fields_line}
use Rattle.report_texts.proofs.adjustment_tables.adjustment_table.Given as goal

-- the heading and the rows so far are there
abbrev pub invariant-loop-line : goal.invariant-loop-line
invariant-loop-line l =
    l.table ≡ line_heading ++ flat_map (λ line. fields_line (line_fields l.period line))
    (take l.line-index l.lines)
