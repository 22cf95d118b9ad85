use Rattle.std.proofs.Common.{◌≡◌, ◌++◌, take, flat_map, option_map, string_bytes}
use Rattle.bill_pages.specs.BillPages.{sums_box}
use Rattle.bill_pages.proofs.bill_head.push_boxes.Given as goal

-- the boxes of the rows so far are appended
abbrev pub invariant-loop-row : goal.invariant-loop-row
invariant-loop-row l =
    l.out
    ≡ l.initial.out
    ++ flat_map (sums_box (option_map (λ text. string_bytes text) l.currency) l.layout)
    (take l.row-index l.rows)
