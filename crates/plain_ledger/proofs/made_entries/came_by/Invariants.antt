use Rattle.std.proofs.Common.{◌≡◌, take}
use Rattle.book_model.specs.Journal.{came_by}
use Rattle.plain_ledger.specs.MadeEntries.{entries_made}
use Rattle.plain_ledger.proofs.made_entries.came_by.Given as goal

-- by those so far
abbrev pub invariant-loop-at : goal.invariant-loop-at
invariant-loop-at l = l.number ≡ came_by (entries_made (take l.at l.made)) l.bytes
