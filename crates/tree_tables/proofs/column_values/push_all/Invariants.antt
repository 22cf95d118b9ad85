use Rattle.std.proofs.Common.{◌≡◌, ◌++◌, map, take}
use Rattle.sqlite_value.specs.Value.{owned}
use Rattle.tree_tables.proofs.column_values.push_all.Given as goal

-- the values so far have joined it
abbrev pub invariant-loop-value : goal.invariant-loop-value
invariant-loop-value l = l.row ≡ l.initial.row ++ map owned (take l.value-index l.values)
