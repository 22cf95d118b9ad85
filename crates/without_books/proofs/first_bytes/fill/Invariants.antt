use Rattle.std.proofs.Common.{◌≡◌, ◌-◌, ◌≤◌, length, take}
use Rattle.std.specs.Io.KnownBytes.{Consumes}
use Rattle.without_books.proofs.first_bytes.fill.Given as goal

-- what came so far is what the reader gave
abbrev pub invariant-room : goal.invariant-room
invariant-room g l = record {
  within : l.count ≤ length l.room;
  size : length l.room ≡ length l.initial.room;
  taken : Consumes (g.R.Read.remaining l.initial.reader) (g.R.Read.remaining l.reader)
      (take l.count l.room);
}

abbrev pub decreases-room : goal.decreases-room
decreases-room g l = length l.initial.room - l.count
