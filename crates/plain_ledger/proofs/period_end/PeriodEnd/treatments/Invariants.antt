use Rattle.std.proofs.Common.{map}
use Rattle.std.specs.BTreeSet.{contains}
use Rattle.std.specs.Map.Iter.{deref_pair}
use Rattle.book_model.specs.Words.{by_bytes}
use Rattle.plain_ledger.specs.Treatments.{TreatmentsOf, treatment_at}
use Rattle.plain_ledger.proofs.period_end.PeriodEnd.treatments.Given as goal

-- the map has the shares of the records so far
abbrev pub invariant-loop-name : goal.invariant-loop-name
invariant-loop-name l =
    TreatmentsOf (λ entry. treatment_at l.self (contains by_bytes l.posted entry.0) entry.1)
    (map deref_pair l.yielded) l.treatments
