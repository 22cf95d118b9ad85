use Rattle.std.proofs.Common.{◌≡◌, ◌+◌, ◌≤◌, ℕ, List, false, length}
use Rattle.std.specs.Io.KnownBytes.{Appends}
use Rattle.streams.specs.Sinks.{writer_of, has_failed}
use Rattle.book_import.proofs.FeedLemmas.{Goes}
use Rattle.program_output.specs.Listings.{listed_count, HasRoom}
use Rattle.program_output.proofs.PieceLemmas.{ListsOver}
use Rattle.program_output.proofs.check.list_records.Given as goal

-- no more records got a line than bytes were seen
abbrev pub invariant-loop-fault : goal.invariant-loop-fault
invariant-loop-fault g l = record {
  goes : Goes l.fn.joiner l.piece l.rest l.joiner (ListsOver l.fn.names l.fn.listing l.listing
      (g.W.Write.contents (writer_of l.fn.sink)) (g.W.Write.contents (writer_of l.sink)));
  few : listed_count l.listing + length l.rest ≤ listed_count l.fn.listing + length l.piece;
  room : HasRoom l.listing;
  grown : (more : List ℕ) × Appends (g.W.Write.contents (writer_of l.fn.sink))
      (g.W.Write.contents (writer_of l.sink)) more;
  unwritten : has_failed l.sink ≡ false;
}

abbrev pub decreases-loop-fault : goal.decreases-loop-fault
decreases-loop-fault g l = length l.rest
