use Rattle.std.proofs.Common.{◌≡◌, take}
use Rattle.book_model.proofs.Lemmas.{joined}
use Rattle.book_model.specs.Words.{by_key, row_key}
use Rattle.bill_texts.proofs.shift_sums.places_of.Given as goal

-- the places of the rows so far have joined those that were there
abbrev pub invariant-loop-row : goal.invariant-loop-row
invariant-loop-row l =
    l.places.keys ≡ joined by_key row_key l.initial.places.keys (take l.row-index l.rows)
