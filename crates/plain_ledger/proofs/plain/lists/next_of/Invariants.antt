use Rattle.std.proofs.Common.{◌≡◌, drop}
use Rattle.plain_ledger.specs.PlainDetails.{next_among}
use Rattle.plain_ledger.proofs.plain.lists.next_of.Given as goal

-- it is the first of those that are left
abbrev pub invariant-loop-detail : goal.invariant-loop-detail
invariant-loop-detail l =
    next_among l.centre l.last l.details ≡ next_among l.centre l.last (drop l.detail-index l.details)
