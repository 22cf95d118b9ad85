use Rattle.std.proofs.Common.{◌≡◌, ◌≤◌, length, take}
use Rattle.book_model.specs.Words.{members}
use Rattle.plain_ledger.specs.MadeEntries.{kept_of}
use Rattle.plain_ledger.proofs.made_entries.count_kept.Given as goal

-- those so far are counted
abbrev pub invariant-loop-at : goal.invariant-loop-at
invariant-loop-at l = record {
  counted : l.count ≡ length (members (kept_of (take l.at l.kept)));
  few : l.count ≤ l.at;
}
