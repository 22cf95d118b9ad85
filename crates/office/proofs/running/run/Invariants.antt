use Rattle.std.proofs.Common.{◌≡◌, ◌≤◌, take, length, vec_len, vec_capacity}
use Rattle.book_core.specs.Transition.{IsTransition}
use Rattle.office.specs.Runs.{Runs}
use Rattle.office.proofs.running.run.Given as goal

-- the answers so far are those to the requests so far, and there is room for the others
abbrev pub invariant-loop-asked : goal.invariant-loop-asked
invariant-loop-asked g l = record {
  runs : IsTransition (g.L.Ledger.seen l.initial.ledger) (g.L.Ledger.seen l.ledger)
      (Runs (g.L.Ledger.seen l.initial.ledger).naming (take l.asked-index l.requests)
      l.answers.items);
  count : vec_len l.answers ≡ l.asked-index;
  room : length l.requests ≤ vec_capacity l.answers;
}
