use Rattle.std.proofs.Common.{Ok, take}
use Rattle.table_model.specs.Words.{post_each}
use Rattle.table_ledger.proofs.Words.{state, Always, Does, names_in}
use Rattle.table_ledger.proofs.close.post_lines.Given as goal

-- the records of the lines so far are posted
abbrev pub invariant-loop-line : goal.invariant-loop-line
invariant-loop-line g l =
    Does {T = Unit {0}} (Ok tt) (state g.S.Store l.fn.tables.store) (state g.S.Store l.tables.store)
    Always (post_each l.fn.close.through (names_in (take l.line-index l.lines)))
