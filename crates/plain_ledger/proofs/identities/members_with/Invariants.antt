use Rattle.std.proofs.Common.{◌≡◌, ◌++◌, [], map, filter}
use Rattle.plain_ledger.specs.Plain.{entry_has_identity, rulings_of, variant_at}
use Rattle.plain_ledger.proofs.identities.members_with.Given as goal

-- the members so far, and those among the records that are left, make the whole
abbrev pub invariant-loop-name : goal.invariant-loop-name
invariant-loop-name l =
    l.members.items ++ map variant_at
    (filter (entry_has_identity (rulings_of [] l.adopted) l.identity) l.name-iterator)
    ≡ map variant_at
    (filter (entry_has_identity (rulings_of [] l.adopted) l.identity) l.held.entries)
