use Rattle.std.proofs.Common.{◌≡◌, flat_map, take}
use Rattle.bill_texts.specs.RecordRows.{side_fields}
use Rattle.bill_texts.proofs.record_rows.side_rows.Given as goal

-- the rows of the lines so far are there
abbrev pub invariant-loop-one : goal.invariant-loop-one
invariant-loop-one l = l.rows.items ≡ flat_map (side_fields l.late) (take l.one-index l.billed)
