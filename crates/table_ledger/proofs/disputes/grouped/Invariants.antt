use Rattle.std.proofs.Common.{◌≡◌, map, take, filter}
use Rattle.book_model.specs.Words.{AreDisputes, dispute_shown}
use Rattle.table_model.specs.Words.{grouped, is_unsettled}
use Rattle.table_ledger.specs.Adoptions.{IsLast}
use Rattle.table_ledger.proofs.Words.{state, stored_entry, Saw}
use Rattle.table_ledger.proofs.disputes.grouped.Given as goal

-- the records so far are in groups, which can be shown
abbrev pub invariant-loop-stored : goal.invariant-loop-stored
invariant-loop-stored g l = record {
  saw : Saw (state g.S.Store l.initial.tables.store) (state g.S.Store l.tables.store) (λ tables.
      IsLast l.chosen tables
      → map dispute_shown l.found.items
      ≡ grouped (filter (is_unsettled tables) (map stored_entry (take l.stored-index l.rows))));
  shown : AreDisputes (map dispute_shown l.found.items);
}
