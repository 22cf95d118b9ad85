use Rattle.std.proofs.Common.{◌≡◌, ◌+◌, drop}
use Rattle.consistent_tables.specs.DueRows.{period_from}
use Rattle.book_audit.proofs.rulings.Rulings.period_of.Given as goal

-- the closes so far are through earlier days
abbrev pub invariant-closes : goal.invariant-closes
invariant-closes l = record {
  number : l.period ≡ l.through-index + 1;
  left : period_from 1 l.self.closes.items l.day
      ≡ period_from l.period (drop l.through-index l.self.closes.items) l.day;
}
