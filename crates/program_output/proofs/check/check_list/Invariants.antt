use Rattle.std.proofs.Common.{◌≡◌, ◌+◌, ◌*◌, ◌≤◌, List, ℕ, [], false, length}
use Rattle.std.specs.Io.KnownBytes.{Consumes}
use Rattle.streams.specs.Sinks as sinks
use Rattle.streams.specs.Sources.{reader_of, reads_of, has_failed, has_ended}
use Rattle.book_import.specs.ReadLimits.{piece_length}
use Rattle.book_import.proofs.FeedLemmas.{HasPassed}
use Rattle.program_output.specs.Listings.{listed_count, waiting}
use Rattle.program_output.proofs.CheckLemmas.{AreListed}
use Rattle.program_output.proofs.check.check_list.Given as goal

-- as many reads as turns, none of which failed or was the end; their bytes, one or more with each,
-- and that all lines of them were written
abbrev pub invariant-loop : goal.invariant-loop
invariant-loop g l = record {
  asked : reads_of l.source ≡ reads_of l.initial.source + l.counter;
  failed : has_failed l.source ≡ false;
  ended : has_ended l.source ≡ false;
  unwritten : sinks.has_failed l.sink ≡ false;
  few : listed_count l.listing ≤ l.counter * piece_length;
  waits : waiting l.listing ≡ [];
  lists : (bytes : List ℕ)
      × Consumes (g.R.Read.remaining (reader_of l.initial.source))
      (g.R.Read.remaining (reader_of l.source)) bytes
      × HasPassed l.fn.layout bytes l.joiner
      (AreListed l.fn.names (g.W.Write.contents (sinks.writer_of l.initial.sink))
      (g.W.Write.contents (sinks.writer_of l.sink)) l.listing)
      × (l.counter ≤ length bytes);
}
