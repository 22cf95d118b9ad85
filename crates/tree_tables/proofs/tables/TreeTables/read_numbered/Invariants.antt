use Rattle.std.proofs.Common.{take, Ok}
use Rattle.tree_tables.specs.Answers.{FindsNumbered}
use Rattle.tree_tables.specs.States.{state}
use Rattle.tree_tables.specs.Steps.{Looks}
use Rattle.tree_tables.proofs.tables.TreeTables.read_numbered.Given as goal

-- the choices so far are those of the numbers so far
abbrev pub invariant-loop-one : goal.invariant-loop-one
invariant-loop-one g l =
    Looks (Ok l.all) (state g.S.Store l.fn.self.store) (state g.S.Store l.self.store)
    (λ tables found. FindsNumbered (take l.one-index l.numbers) tables found.items)
