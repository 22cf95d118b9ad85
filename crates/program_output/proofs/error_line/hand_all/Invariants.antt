use Rattle.std.proofs.Common.{◌-◌, ◌≤◌, length, take}
use Rattle.std.specs.Io.KnownBytes.{Appends}
use Rattle.program_output.proofs.error_line.hand_all.Given as goal

-- the bytes so far were written
abbrev pub invariant-writes : goal.invariant-writes
invariant-writes g l =
    record {
      within : l.written ≤ length l.bytes;
      grown : Appends (g.E.Write.contents l.fn.writer) (g.E.Write.contents l.writer)
          (take l.written l.bytes);
    }

-- the bytes that are left
abbrev pub decreases-writes : goal.decreases-writes
decreases-writes g l = length l.bytes - l.written
