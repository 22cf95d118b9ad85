use Rattle.std.proofs.Common.{◌≡◌, ◌≤◌, All, length, map, take}
use Rattle.book_model.specs.Words.{HasDays, all_replaced_seen, ruling_shown}
use Rattle.plain_ledger.specs.Plain.{replaced_of}
use Rattle.plain_ledger.proofs.replaced.list_replaced.Given as goal

-- those so far are listed
abbrev pub invariant-loop-one : goal.invariant-loop-one
invariant-loop-one l = record {
  listed : map ruling_shown l.all.items
      ≡ all_replaced_seen (map replaced_of (take l.one-index l.replaced));
  few : length l.all.items ≤ l.one-index;
  days : All (λ one. HasDays (ruling_shown one)) l.all.items;
}
