use Rattle.std.proofs.Common.{◌≡◌, find}
use Rattle.book_model.specs.Words.{is_from}
use Rattle.plain_ledger.specs.Plain.{Entry}
use Rattle.plain_ledger.proofs.arrivals.arrival_among.Given as goal

-- what is found among all is among those that are left
abbrev pub invariant-loop-name : goal.invariant-loop-name
invariant-loop-name l =
    find (λ (entry : Entry). is_from l.from entry.0) l.name-iterator
    ≡ find (λ (entry : Entry). is_from l.from entry.0) l.held.entries
