use Rattle.std.proofs.Common.{◌≡◌, ◌≤◌, ◌-◌, ℕ, List}
use Rattle.std.specs.BTreeMap.{get}
use Rattle.book_model.specs.Words.{by_bytes}
use Rattle.table_model.specs.Words.{first_line}
use Rattle.table_ledger.proofs.Words.{KeepsSchema, state, Saw}
use Rattle.table_ledger.proofs.upgrading.first_lines.Given as goal

-- the lines are the first of the periods so far
abbrev pub invariant-loop-period : goal.invariant-loop-period
invariant-loop-period g l = record {
  saw : Saw (state g.S.Store l.fn.store) (state g.S.Store l.store) (λ tables.
      (name : List ℕ) → get by_bytes l.lines name ≡ first_line tables.lines name 1 l.period);
  schema : KeepsSchema (g.S.Store.view l.fn.store) (g.S.Store.view l.store);
  until : l.period ≤ l.last;
}

abbrev pub decreases-loop-period : goal.decreases-loop-period
decreases-loop-period g l = l.last - l.period
