use Rattle.table_ledger.proofs.Words.{state, Saw}
use Rattle.table_ledger.proofs.DetailTries.{ReachesAll}
use Rattle.table_ledger.proofs.details.next_sought.Given as goal

-- each detail that is sought is from the start on
abbrev pub invariant-details : goal.invariant-details
invariant-details g l =
    Saw (state g.S.Store l.fn.tables.store) (state g.S.Store l.tables.store)
    (ReachesAll l.fn.sought l.start)
