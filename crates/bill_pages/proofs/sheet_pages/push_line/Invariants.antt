use Rattle.std.proofs.Common.{decimal}
use Rattle.bill_pages.specs.SheetPages.{line_page}
use Rattle.bill_pages.proofs.sheet_pages.push_line.Given as goal

-- the piece is the row
abbrev pub ghost-leave_out : goal.ghost-leave_out
ghost-leave_out a = line_page (decimal a.value.now.0.0) a.value.now.0.1 a.value.now.1.now
