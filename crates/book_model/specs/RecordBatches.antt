-- A history cut at its rulings, and the stretches between them.
use Rattle.std.specs.Prelude.{ℕ, List, [], ◌∷◌}
use Rattle.std.specs.FinMap as map
use Rattle.book_model.specs.Sets.{with}
use Rattle.book_model.specs.Records.{Records}
use Rattle.book_model.specs.Events.{Event, RecordKept}

-- the rulings among some events, in their order: whatever is no record that was kept
abbrev pub rulings_in : List Event → List Event
rulings_in [] = []
rulings_in (RecordKept bytes ∷ older) = rulings_in older
rulings_in (ruling ∷ older) = ruling ∷ rulings_in older

-- the sets, with one more record in the newest
abbrev pub with_newest : List ℕ → List Records → List Records
with_newest bytes [] = []
with_newest bytes (newest ∷ earlier) = with newest bytes ∷ earlier

-- The sets of records that were kept between neighbouring rulings, the newest first: those after
-- the last ruling, those between it and the ruling before it, and so on to those before the first.
abbrev pub record_batches : List Event → List Records
record_batches [] = map.empty ∷ []
record_batches (RecordKept bytes ∷ older) = with_newest bytes (record_batches older)
record_batches (ruling ∷ older) = map.empty ∷ record_batches older
