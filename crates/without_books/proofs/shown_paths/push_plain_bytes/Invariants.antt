use Rattle.std.proofs.Common.{◌≡◌, ◌++◌, take}
use Rattle.std.specs.List.{flat_map}
use Rattle.without_books.specs.ShownPaths.{plain_byte}
use Rattle.without_books.proofs.shown_paths.push_plain_bytes.Given as goal

-- the bytes so far are shown
abbrev pub invariant-loop-byte : goal.invariant-loop-byte
invariant-loop-byte l = l.out ≡ l.initial.out ++ flat_map plain_byte (take l.byte-index l.bytes)
