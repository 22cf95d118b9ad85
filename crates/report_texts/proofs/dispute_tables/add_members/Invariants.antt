use Rattle.std.proofs.Common.{◌≡◌, ◌++◌, take, flat_map}
use Rattle.report_texts.specs.DisputeTables.{member_row}
use Rattle.report_texts.proofs.dispute_tables.add_members.Given as goal

-- the rows of the records so far are there
abbrev pub invariant-loop-member : goal.invariant-loop-member
invariant-loop-member l =
    l.table ≡ l.initial.table
    ++ flat_map (member_row l.dispute l.identity) (take l.member-index l.members)
