use Rattle.std.proofs.Common.{◌≡◌, drop}
use Rattle.std.specs.List.{list_any}
use Rattle.book_model.specs.Words.{is_between}
use Rattle.page_texts.proofs.period_disputes.is_dated.Given as goal

-- what is asked of all records is asked of those that are left
abbrev pub invariant-loop-member : goal.invariant-loop-member
invariant-loop-member l =
    list_any (λ member. is_between l.before l.through member.priced.day)
    (drop l.member-index l.members)
    ≡ list_any (λ member. is_between l.before l.through member.priced.day) l.members
