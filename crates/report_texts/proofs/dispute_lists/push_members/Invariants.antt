use Rattle.std.proofs.Common.{◌≡◌, ◌++◌, take, flat_map}
use Rattle.report_texts.specs.DisputeLists.{member_line}
use Rattle.report_texts.proofs.dispute_lists.push_members.Given as goal

-- the lines of the records so far are appended
abbrev pub invariant-loop-member : goal.invariant-loop-member
invariant-loop-member l =
    let members = take l.member-index l.members in
    l.out ≡ l.initial.out ++ flat_map member_line members
