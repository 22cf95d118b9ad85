use Rattle.std.proofs.Common.{◌≡◌, take, slice_set}
use Rattle.sqlite_value.specs.Value.{owned}
use Rattle.tree_tables.proofs.column_values.with_column.Given as goal

-- the columns so far are those of the other row with the number
abbrev pub invariant-loop-place : goal.invariant-loop-place
invariant-loop-place l = l.row ≡ take l.place (slice_set l.other l.at (owned l.fn.value))
