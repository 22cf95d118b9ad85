use Rattle.std.proofs.Common.{◌≡◌, ◌+◌, ◌*◌, ◌≤◌, List, None, ℕ, false, length}
use Rattle.std.specs.Io.KnownBytes.{Consumes}
use Rattle.streams.specs.Sources.{reader_of, reads_of, has_failed, has_ended}
use Rattle.book_model.specs.Words.{front, note_given}
use Rattle.book_import.specs.EntryWork.{HasRead, note_of}
use Rattle.book_import.specs.ReadLimits.{read_length}
use Rattle.book_import.specs.Receipts.{counted}
use Rattle.book_import.proofs.FeedLemmas.{HasPassed}
use Rattle.book_import.proofs.PiecewiseLemmas.{LeadsFrom}
use Rattle.book_import.proofs.dump_import.import_with.Given as goal

-- The room is as long as it was. As many reads as turns, none of which failed or was the end; their
-- bytes, one or more for each, and what became of them. Each record among them was counted. The import
-- has read them, and said no end.
abbrev pub invariant-loop : goal.invariant-loop
invariant-loop g l = record {
  room : length l.piece ≡ g.most;
  asked : reads_of l.source ≡ reads_of l.initial.source + l.counter;
  failed : has_failed l.source ≡ false;
  ended : has_ended l.source ≡ false;
  few : counted l.receipt ≤ l.counter * read_length;
  short : l.entry.bytes.length ≤ l.counter * read_length;
  note : note_of l.entry ≡ note_given l.fn.note;
  fresh : l.entry.ended ≡ None;
  joins : (bytes : List ℕ)
      × Consumes (g.R.Read.remaining (reader_of l.initial.source))
      (g.R.Read.remaining (reader_of l.source)) bytes
      × HasPassed l.fn.layout bytes l.joiner
      (LeadsFrom (g.L.Ledger.seen l.initial.ledger) (g.L.Ledger.seen l.ledger) l.entry l.fn.layout
      bytes l.receipt)
      × (l.counter ≤ length bytes)
      × (length (front l.fn.layout bytes).records ≤ counted l.receipt)
      × HasRead bytes l.entry;
}
