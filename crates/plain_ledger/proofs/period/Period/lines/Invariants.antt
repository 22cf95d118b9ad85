use Rattle.std.proofs.Common.{◌≡◌, map, filter_map}
use Rattle.std.specs.Map.Iter.{deref_pair}
use Rattle.plain_ledger.specs.Treatments.{line_at, treatment_in}
use Rattle.plain_ledger.proofs.period.Period.lines.Given as goal

-- the lines are those of the records so far
abbrev pub invariant-loop-name : goal.invariant-loop-name
invariant-loop-name l =
    l.lines.items ≡ filter_map (λ entry. line_at (treatment_in l.self l.posted entry) entry)
    (map deref_pair l.yielded)
