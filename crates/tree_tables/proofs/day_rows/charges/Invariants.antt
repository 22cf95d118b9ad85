use Rattle.std.proofs.Common.{◌≡◌, map, take}
use Rattle.tree_tables.specs.declared.day_rows.StoredDay.{StoredDay}
use Rattle.tree_tables.proofs.day_rows.charges.Given as goal

-- the charge rows so far are those of the rows so far
abbrev pub invariant-loop-day : goal.invariant-loop-day
invariant-loop-day l =
    l.list.items ≡ map (λ (day : StoredDay). day.charge) (take l.day-index l.days)
