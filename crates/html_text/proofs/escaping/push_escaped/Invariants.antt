use Rattle.std.proofs.Common.{◌≡◌, ◌++◌, take}
use Rattle.std.specs.List.{flat_map}
use Rattle.html_text.specs.Escaping.{escape_byte}
use Rattle.html_text.proofs.escaping.push_escaped.Given as goal

-- the bytes so far are shown
abbrev pub invariant-loop-byte : goal.invariant-loop-byte
invariant-loop-byte l =
    l.out ≡ l.initial.out ++ flat_map escape_byte (take l.byte-index l.byte-items)
