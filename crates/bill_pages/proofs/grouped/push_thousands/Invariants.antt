use Rattle.std.proofs.Common.{◌≡◌, ◌++◌, drop}
use Rattle.bill_pages.specs.Grouped.{in_thousands}
use Rattle.bill_pages.proofs.grouped.push_thousands.Given as goal

-- with the bytes that are left it is all that is to be appended
abbrev pub invariant-loop-byte : goal.invariant-loop-byte
invariant-loop-byte l =
    l.out ++ in_thousands l.left (drop l.byte-index l.text)
    ≡ l.initial.out ++ in_thousands l.whole l.text
