use Rattle.std.proofs.Common.{◌≡◌, map, filter}
use Rattle.std.specs.Map.Iter.{deref_pair}
use Rattle.plain_ledger.specs.Plain.{rulings_of}
use Rattle.plain_ledger.proofs.IdentityLemmas.{shown_groups, groups_of, is_among}
use Rattle.plain_ledger.proofs.identities.group_disputed.Given as goal

-- the map holds the groups of the records so far with an identity in dispute
abbrev pub invariant-loop-name : goal.invariant-loop-name
invariant-loop-name l =
    shown_groups l.groups.entries
    ≡ groups_of (rulings_of l.choices l.adopted)
    (filter (is_among (rulings_of l.choices l.adopted) l.disputed) (map deref_pair l.yielded))
