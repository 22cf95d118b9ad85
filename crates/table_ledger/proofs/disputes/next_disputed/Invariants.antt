use Rattle.table_ledger.proofs.Words.{state, Saw}
use Rattle.table_ledger.proofs.DisputeTries.{PassedTo}
use Rattle.table_ledger.proofs.disputes.next_disputed.Given as goal

-- each identity in dispute from the first bytes on is from these bytes on
abbrev pub invariant-identities : goal.invariant-identities
invariant-identities g l =
    Saw (state g.S.Store l.fn.tables.store) (state g.S.Store l.tables.store)
    (PassedTo l.fn.from l.reached.items)
