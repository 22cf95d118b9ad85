use Rattle.std.proofs.Common.{◌≡◌, take}
use Rattle.report_texts.specs.Figures.{record_count_from}
use Rattle.report_texts.proofs.figures.record_count_from.Given as goal

-- the records of the rows so far that are dated so
abbrev pub invariant-loop-row : goal.invariant-loop-row
invariant-loop-row l = l.records ≡ record_count_from l.day (take l.row-index l.rows)
