use Rattle.std.proofs.Common.{◌≡◌, ◌-◌, ◌<◌, ◌≤◌, length, IsTrue}
use Rattle.book_trees.specs.Copies.{BeginsAs, IsOnlyRead}
use Rattle.book_trees.proofs.copying.copy_bytes.Given as goal

-- so many bytes were copied, and the first file was only read
abbrev pub invariant-loop-done : goal.invariant-loop-done
invariant-loop-done g l =
    IsOnlyRead g.A.Disk l.initial.from l.from
    × IsTrue (g.A.Disk.is_usable l.from)
    × IsTrue (g.B.Disk.is_usable l.to)
    × (l.done ≤ l.len)
    × (0 < length l.buffer)
    × (length (g.B.Disk.seen l.to) ≡ l.len)
    × (IsTrue (g.A.Disk.is_clean l.from)
    → BeginsAs l.done l.len (g.A.Disk.seen l.initial.from) (g.B.Disk.seen l.to))

abbrev pub decreases-loop-done : goal.decreases-loop-done
decreases-loop-done g l = l.len - l.done
