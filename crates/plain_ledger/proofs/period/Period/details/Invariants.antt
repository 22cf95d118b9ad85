use Rattle.std.proofs.Common.{◌≡◌, ◌++◌, map, filter}
use Rattle.plain_ledger.specs.Plain.{Entry}
use Rattle.plain_ledger.specs.PlainDetails.{detail_at}
use Rattle.plain_ledger.specs.Treatments.{is_counted, treatment_in}
use Rattle.plain_ledger.proofs.period.Period.details.Given as goal

-- the details so far, and those of the records that are left, make the whole
abbrev pub invariant-loop-name : goal.invariant-loop-name
invariant-loop-name l =
    l.details.items ++ map detail_at
    (filter (λ (entry : Entry). is_counted (treatment_in l.self l.posted entry)) l.name-iterator)
    ≡ map detail_at
    (filter (λ (entry : Entry). is_counted (treatment_in l.self l.posted entry)) l.held.entries)
