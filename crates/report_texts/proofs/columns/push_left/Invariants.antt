use Rattle.std.proofs.Common.{◌++◌, codes}
use Rattle.report_texts.specs.Columns.{left_aligned}
use Rattle.report_texts.proofs.columns.push_left.Given as goal

-- the piece is the column
abbrev pub ghost-leave_out : goal.ghost-leave_out
ghost-leave_out a = left_aligned a.value.now.0 a.value.now.1.now ++ codes " "
