use Rattle.std.proofs.Common.{Ok, take}
use Rattle.table_model.specs.Words.{post_each}
use Rattle.table_ledger.proofs.Words.{state, Always, Does}
use Rattle.table_ledger.proofs.close.post_each.Given as goal

-- the records of the names so far are posted
abbrev pub invariant-loop-name : goal.invariant-loop-name
invariant-loop-name g l =
    Does {T = Unit {0}} (Ok tt) (state g.S.Store l.fn.tables.store) (state g.S.Store l.tables.store)
    Always (post_each l.fn.close.through (take l.name-index l.names))
