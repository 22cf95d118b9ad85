use Rattle.std.proofs.Common.{◌≡◌, drop}
use Rattle.std.specs.List.{list_any}
use Rattle.book_model.specs.Words.{is_paid_by}
use Rattle.book_reports.proofs.held_back.is_any_paid_by.Given as goal

-- what is asked of all records is asked of those that are left
abbrev pub invariant-loop-member : goal.invariant-loop-member
invariant-loop-member l =
    list_any (λ member. is_paid_by l.centre member.priced) (drop l.member-index l.members)
    ≡ list_any (λ member. is_paid_by l.centre member.priced) l.members
