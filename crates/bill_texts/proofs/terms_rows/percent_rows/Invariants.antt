use Rattle.std.proofs.Common.{◌≡◌, map, take}
use Rattle.bill_texts.specs.TermsRows.{percent_fields}
use Rattle.bill_texts.proofs.terms_rows.percent_rows.Given as goal

-- the rows of the shifts so far are there
abbrev pub invariant-loop-shift : goal.invariant-loop-shift
invariant-loop-shift l = l.rows.items ≡ map percent_fields (take l.shift-index l.shifts)
