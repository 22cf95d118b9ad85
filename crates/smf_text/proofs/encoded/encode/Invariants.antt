use Rattle.std.proofs.Common.{◌≡◌, ◌++◌, take, drop}
use Rattle.smf_text.specs.Encoding.{page_bytes}
use Rattle.smf_text.proofs.encoded.encode.Given as goal

-- the characters so far are written, and what follows them stays
abbrev pub invariant-loop-i : goal.invariant-loop-i
invariant-loop-i l = l.buffer ≡ page_bytes (take l.i l.text) ++ drop l.i l.fn.buffer
