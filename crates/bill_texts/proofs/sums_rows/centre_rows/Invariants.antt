use Rattle.std.proofs.Common.{◌≡◌, map, take}
use Rattle.bill_texts.specs.SumsRows.{centre_fields}
use Rattle.bill_texts.proofs.sums_rows.centre_rows.Given as goal

-- the rows of the centres so far are there
abbrev pub invariant-loop-own : goal.invariant-loop-own
invariant-loop-own l = l.rows.items ≡ map (centre_fields l.decimals) (take l.own-index l.each)
