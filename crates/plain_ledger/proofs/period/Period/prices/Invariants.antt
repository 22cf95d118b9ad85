use Rattle.std.proofs.Common.{◌≡◌, ◌++◌, map, filter}
use Rattle.plain_ledger.specs.Plain.{Entry}
use Rattle.plain_ledger.specs.Treatments.{is_counted, treatment_in}
use Rattle.plain_ledger.proofs.period.Period.prices.Given as goal

-- the prices so far, and those of the records that are left, make the whole
abbrev pub invariant-loop-name : goal.invariant-loop-name
invariant-loop-name l =
    l.prices.items ++ map (λ (entry : Entry). entry.1.priced)
    (filter (λ entry. is_counted (treatment_in l.self l.posted entry)) l.name-iterator)
    ≡ map (λ entry. entry.1.priced)
    (filter (λ entry. is_counted (treatment_in l.self l.posted entry)) l.held.entries)
