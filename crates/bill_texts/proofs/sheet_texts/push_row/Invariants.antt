use Rattle.bill_texts.specs.SheetTexts.{row_text}
use Rattle.bill_texts.proofs.sheet_texts.push_row.Given as goal

-- the piece is the line
abbrev pub ghost-leave_out : goal.ghost-leave_out
ghost-leave_out a = row_text a.value.now.0 a.value.now.1.now
