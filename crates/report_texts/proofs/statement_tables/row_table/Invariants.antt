use Rattle.std.proofs.Common.{◌≡◌, ◌++◌, take, flat_map}
use Rattle.report_texts.specs.StatementTables.{table_heading, table_line}
use Rattle.report_texts.proofs.statement_tables.row_table.Given as goal

-- the heading and the rows so far are there
abbrev pub invariant-loop-row : goal.invariant-loop-row
invariant-loop-row l =
    l.table ≡ table_heading l.amounts ++ flat_map (table_line l.period) (take l.row-index l.rows)
