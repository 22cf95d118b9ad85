use Rattle.std.proofs.Common.{map}
use Rattle.std.specs.Map.Iter.{deref_pair}
use Rattle.plain_ledger.specs.Treatments.{NamesOf, charges}
use Rattle.plain_ledger.proofs.period_end.PeriodEnd.charged_names.Given as goal

-- the set has the names of the records so far that are charged
abbrev pub invariant-loop-name : goal.invariant-loop-name
invariant-loop-name l = NamesOf (λ entry. charges l.self entry.1) (map deref_pair l.yielded) l.names
