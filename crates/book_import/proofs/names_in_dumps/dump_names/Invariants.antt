use Rattle.std.proofs.Common.{◌≡◌, ◌+◌, List, ℕ, false}
use Rattle.std.specs.Io.KnownBytes.{Consumes}
use Rattle.streams.specs.Sources.{reader_of, reads_of, has_failed, has_ended}
use Rattle.book_import.proofs.FeedLemmas.{HasPassed}
use Rattle.book_import.proofs.NameLemmas.{AreNamesOf}
use Rattle.book_import.proofs.names_in_dumps.dump_names.Given as goal

-- as many reads as turns, none of which failed or was the end; and the names of the records in their bytes
abbrev pub invariant-loop : goal.invariant-loop
invariant-loop g l = record {
  asked : reads_of l.source ≡ reads_of l.initial.source + l.counter;
  failed : has_failed l.source ≡ false;
  ended : has_ended l.source ≡ false;
  joins : (bytes : List ℕ)
      × Consumes (g.R.Read.remaining (reader_of l.initial.source))
      (g.R.Read.remaining (reader_of l.source)) bytes
      × HasPassed l.fn.layout bytes l.joiner
      (AreNamesOf (g.N.Naming.name_of l.naming) l.names.items);
}
