use Rattle.std.proofs.Common.{◌≡◌, ◌++◌, map}
use Rattle.book_model.specs.Words.{dispute_shown}
use Rattle.plain_ledger.specs.Plain.{group_shown}
use Rattle.plain_ledger.proofs.identities.list_disputes.Given as goal

-- the disputes that are listed and the groups that are left make the whole
abbrev pub invariant-loop-identity : goal.invariant-loop-identity
invariant-loop-identity l =
    map dispute_shown l.found.items ++ map group_shown l.identity-iterator
    ≡ map group_shown l.fn.groups.entries
