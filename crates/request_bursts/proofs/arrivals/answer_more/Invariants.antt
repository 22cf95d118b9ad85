use Rattle.std.proofs.Common.{◌≡◌, ◌≤◌, ◌+◌, length, reverse, vec_capacity, vec_len}
use Rattle.book_core.specs.Transition.{IsTransition}
use Rattle.request_bursts.specs.Bursts.{AnswersMore}
use Rattle.request_bursts.proofs.arrivals.answer_more.Given as goal

-- what became of those so far, and there is room for the others
abbrev pub invariant-loop : goal.invariant-loop
invariant-loop g l = record {
  answered : IsTransition (g.L.Ledger.seen l.initial.books) (g.L.Ledger.seen l.books)
      (AnswersMore (g.L.Ledger.seen l.initial.books).naming (reverse l.later.items));
  left : g.A.Arrivals.left l.arrivals + length l.later.items ≡ g.A.Arrivals.left l.initial.arrivals;
  count : vec_len l.later ≡ l.counter;
  room : 200 ≤ vec_capacity l.later;
}
