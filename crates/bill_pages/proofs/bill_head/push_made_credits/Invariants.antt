use Rattle.bill_pages.specs.BillPages.{credits_sum}
use Rattle.bill_pages.proofs.bill_head.push_made_credits.Given as goal

-- the piece is what is credited
abbrev pub ghost-leave_out : goal.ghost-leave_out
ghost-leave_out a = credits_sum a.value.now.0 a.value.now.1.now
