use Rattle.std.proofs.Common.{◌≡◌, ◌≤◌, ◌+◌, drop}
use Rattle.book_model.specs.Words.{Book, Naming, note_given}
use Rattle.table_ledger.proofs.Words.{HasCleanDisk, IsAt, Survives, Trees, state}
use Rattle.table_ledger.specs.WithheldTogether.{KeepsButChoices}
use Rattle.table_ledger.proofs.WithheldStages.{AreWithheld}
use Rattle.table_ledger.proofs.withheld_together.stage_works.Given as goal

-- each work so far was taken and counted, and what was written of them is not committed
abbrev pub invariant-loop-name : goal.invariant-loop-name
invariant-loop-name g l = record {
  kept : KeepsButChoices l.initial.summary l.summary;
  survives : Survives (state g.S.Store l.initial.tables.store) (state g.S.Store l.tables.store)
      (λ (trees : Trees). ⊥);
  count : l.counts.taken ≡ l.name-index;
  within : l.counts.done + l.counts.absent ≤ l.counts.taken;
  taken : (naming : Naming) → HasCleanDisk (state g.S.Store l.tables.store) → (book : Book)
      → IsAt naming l.initial.summary (g.S.Store.view l.initial.tables.store) book
      → AreWithheld naming (note_given l.note) l.names (drop l.name-index l.names) l.summary
      (g.S.Store.view l.initial.tables.store) (g.S.Store.view l.tables.store) book l.counts;
}
