use Rattle.std.proofs.Common.{◌≡◌, ◌++◌, take}
use Rattle.std.specs.List.{flat_map}
use Rattle.page_texts.specs.PeriodTables.{member_row}
use Rattle.page_texts.proofs.period_disputes.push_members.Given as goal

-- the rows of the records so far are appended
abbrev pub invariant-loop-member : goal.invariant-loop-member
invariant-loop-member l =
    l.out
    ≡ l.initial.out ++ flat_map member_row (take l.member-index l.members)
