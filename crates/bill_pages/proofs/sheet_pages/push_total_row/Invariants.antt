use Rattle.bill_pages.specs.SheetPages.{total_row}
use Rattle.bill_pages.proofs.sheet_pages.push_total_row.Given as goal

-- the piece is the row
abbrev pub ghost-leave_out : goal.ghost-leave_out
ghost-leave_out a = total_row a.value.now.0 a.value.now.1.now
