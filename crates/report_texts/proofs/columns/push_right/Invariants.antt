use Rattle.report_texts.specs.Columns.{right_aligned}
use Rattle.report_texts.proofs.columns.push_right.Given as goal

-- the piece is the column
abbrev pub ghost-leave_out : goal.ghost-leave_out
ghost-leave_out a = right_aligned a.value.now.0 a.value.now.1.now
