use Rattle.std.proofs.Common.{ℕ, List}
use Rattle.std.specs.Io.Iter.{bytes_remaining}
use Rattle.std.specs.Io.KnownBytes.{Consumes}
use Rattle.program_output.specs.Names.{HasRead}
use Rattle.chargectl.proofs.choices.read_names.Given as goal

-- the bytes that have come are those of a list, and all that the reader gave
abbrev pub invariant-loop-byte : goal.invariant-loop-byte
invariant-loop-byte g l =
    let remaining = bytes_remaining g.R.Read.remaining in
    (text : List ℕ) × HasRead text l.list
    × Consumes (remaining l.initial.byte-iterator) (remaining l.byte-iterator) text
