use Rattle.std.proofs.Common.{◌≡◌, ◌≤◌, ◌++◌, [], List, ℕ, length}
use Rattle.std.specs.Prelude.{IfSome}
use Rattle.book_model.specs.Words.{front, note_given}
use Rattle.book_import.specs.Dumps.{frame_stop}
use Rattle.book_import.specs.EntryWork.{HasRead, note_of}
use Rattle.book_import.specs.Receipts.{counted}
use Rattle.book_import.proofs.FeedLemmas.{HasPassed}
use Rattle.book_import.proofs.PiecewiseLemmas.{LeadsFrom}
use Rattle.book_import.proofs.dump_import.import_bytes.Given as goal

-- The bytes so far, and what became of them. Each record among them was counted. The import has read
-- them, and said its end with the last of them alone.
abbrev pub invariant-loop-rest : goal.invariant-loop-rest
invariant-loop-rest g l = record {
  note : note_of l.entry ≡ note_given l.fn.note;
  joins : (passed : List ℕ) × (passed ++ l.rest ≡ l.fn.bytes) × (counted l.receipt ≤ length passed)
      × HasPassed l.fn.layout passed l.joiner
      (LeadsFrom (g.L.Ledger.seen l.initial.ledger) (g.L.Ledger.seen l.ledger) l.entry l.fn.layout
      passed l.receipt)
      × (length (front l.fn.layout passed).records ≤ counted l.receipt)
      × HasRead passed l.entry
      × (l.entry.bytes.length ≤ length passed)
      × IfSome l.entry.ended (λ said.
      (l.rest ≡ []) × (said ≡ frame_stop (front l.fn.layout passed).fault));
}

abbrev pub decreases-loop-rest : goal.decreases-loop-rest
decreases-loop-rest g l = length l.rest
