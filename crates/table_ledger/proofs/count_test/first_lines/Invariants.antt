use Rattle.std.proofs.Common.{◌≡◌, ◌≤◌, ◌-◌, ℕ, suc, List}
use Rattle.std.specs.BTreeMap.{get}
use Rattle.book_model.specs.Words.{by_bytes}
use Rattle.table_model.specs.Words.{first_line}
use Rattle.table_ledger.proofs.Words.{state, Saw}
use Rattle.table_ledger.proofs.count_test.first_lines.Given as goal

-- the lines are the first of the periods so far
abbrev pub invariant-loop-period : goal.invariant-loop-period
invariant-loop-period g l = record {
  saw : Saw (state g.S.Store l.fn.tables.store) (state g.S.Store l.tables.store) (λ tables.
      (name : List ℕ) → get by_bytes l.lines name
      ≡ first_line tables.lines name (suc l.after) (l.period - l.after));
  since : l.after ≤ l.period;
  until : l.period ≤ l.last;
}

abbrev pub decreases-loop-period : goal.decreases-loop-period
decreases-loop-period g l = l.last - l.period
