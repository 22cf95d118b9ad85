use Rattle.std.proofs.Common.{◌≡◌, take}
use Rattle.book_reports.specs.BillTariffs.{with_shifts}
use Rattle.book_reports.proofs.bill_shifts.insert_shifts.Given as goal

-- the shifts of the rules so far have joined those that were there
abbrev pub invariant-loop-rule : goal.invariant-loop-rule
invariant-loop-rule l =
    l.shifts.keys ≡ with_shifts l.initial.shifts.keys (take l.rule-index l.rules)
