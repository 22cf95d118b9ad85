-- What the books have room for.
use Rattle.std.specs.Prelude.{ℕ, nat_lt, if◌then◌else◌, Option, Some, None}
use Rattle.book_model.specs.Words.{most_cost}

-- a cost, where the books hold as much
abbrev pub if_room : ℕ → Option ℕ
if_room cost = if nat_lt most_cost cost then None else Some cost
