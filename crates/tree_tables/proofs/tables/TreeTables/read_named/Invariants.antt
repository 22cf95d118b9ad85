use Rattle.std.proofs.Common.{take, Ok}
use Rattle.tree_tables.specs.Answers.{FindsNamed}
use Rattle.tree_tables.specs.States.{state}
use Rattle.tree_tables.specs.Steps.{Looks}
use Rattle.tree_tables.proofs.tables.TreeTables.read_named.Given as goal

-- the records so far are those of the names so far
abbrev pub invariant-loop-named : goal.invariant-loop-named
invariant-loop-named g l =
    Looks (Ok l.all) (state g.S.Store l.fn.self.store) (state g.S.Store l.self.store)
    (λ tables found. FindsNamed (take l.named-index l.names) tables found.items)
