use Rattle.std.proofs.Common.{◌≡◌, ◌+◌, ◌≤◌, None, length}
use Rattle.book_import.proofs.FeedLemmas.{Goes}
use Rattle.book_import.proofs.GatheringLemmas.{Completes}
use Rattle.book_import.proofs.gathering.gather.Given as goal

-- the group is that of the records found so far, and no more bytes were seen than there are
abbrev pub invariant-loop-fault : goal.invariant-loop-fault
invariant-loop-fault l = record {
  goes : Goes l.fn.joiner l.piece l.rest l.joiner (Completes l.group);
  whole : l.group.broken ≡ None;
  few : length l.group.classes.items + length l.rest ≤ length l.piece;
}

abbrev pub decreases-loop-fault : goal.decreases-loop-fault
decreases-loop-fault l = length l.rest
