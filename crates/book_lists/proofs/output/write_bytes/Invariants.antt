use Rattle.std.proofs.Common.{◌≡◌, ◌-◌, ◌≤◌, false, length, take}
use Rattle.book_lists.proofs.Words.{Appends, writer_of, has_failed}
use Rattle.book_lists.proofs.output.write_bytes.Given as goal

-- the writer took the bytes so far, and no write failed
abbrev pub invariant-writes : goal.invariant-writes
invariant-writes g l =
    let before = g.W.Write.contents (writer_of l.initial.sink) in
    let now = g.W.Write.contents (writer_of l.sink) in
    record {
      within : l.written ≤ length l.bytes;
      taken : Appends before now (take l.written l.bytes);
      well : has_failed l.sink ≡ false;
    }

-- the bytes that are left
abbrev pub decreases-writes : goal.decreases-writes
decreases-writes g l = length l.bytes - l.written
