use Rattle.std.proofs.Common.{◌≡◌, drop, length}
use Rattle.book_model.specs.Words.{Book}
use Rattle.book_core.specs.Words.{records_in}
use Rattle.table_model.specs.Tables.{JournalTable}
use Rattle.table_ledger.proofs.Words.{Trees, HasCleanDisk, Survives, state, IsAtAs}
use Rattle.table_ledger.specs.Groups.{before_entry, joined_by}
use Rattle.table_ledger.specs.Stages.{KeepsRulings}
use Rattle.table_ledger.proofs.ManyLemmas.{AreTaken}
use Rattle.table_ledger.proofs.accept.stage_each.Given as goal

-- each record so far was taken, and what was written of them is not committed
abbrev pub invariant-loop-one : goal.invariant-loop-one
invariant-loop-one g l = record {
  ruled : KeepsRulings l.initial.summary l.summary;
  survives : Survives (state g.S.Store l.initial.tables.store) (state g.S.Store l.tables.store)
      (λ (trees : Trees). ⊥);
  count : length l.answers.items ≡ l.one-index;
  taken : (rows : JournalTable) → HasCleanDisk (state g.S.Store l.tables.store) → (book : Book)
      → l.came ≡ joined_by book.journal
      → IsAtAs (before_entry l.initial.summary.held l.initial.summary.total rows)
      (g.N.Naming.name_of l.naming) l.initial.summary (g.S.Store.view l.initial.tables.store)
      book
      → AreTaken l.came (before_entry l.initial.summary.held l.initial.summary.total rows)
      (g.N.Naming.name_of l.naming)
      (records_in l.records)
      (records_in (drop l.one-index l.records)) l.summary
      (g.S.Store.view l.initial.tables.store) (g.S.Store.view l.tables.store) book l.answers.items;
}
