use Rattle.std.proofs.Common.{◌≡◌, ◌+◌, ◌≤◌, drop}
use Rattle.book_import.specs.Receipts as spec
use Rattle.book_import.specs.Receipts.{counted}
use Rattle.book_import.proofs.records.count_ahead.Given as goal

-- those that are left are still to be counted
abbrev pub invariant-loop-class : goal.invariant-loop-class
invariant-loop-class l = record {
  value : spec.count_ahead (drop l.class-index l.classes) l.ahead
      ≡ spec.count_ahead l.classes l.receipt;
  few : counted l.ahead ≤ counted l.receipt + l.class-index;
}
