use Rattle.std.specs.Prelude.{option_map, string_bytes}
use Rattle.bill_pages.specs.BillPages.{box_start}
use Rattle.bill_pages.proofs.bill_head.push_made_sums.Given as goal

-- the piece is what stands in the box
abbrev pub ghost-leave_out : goal.ghost-leave_out
ghost-leave_out a =
    box_start (option_map (λ text. string_bytes text) a.value.now.0.now) a.value.now.1.now
