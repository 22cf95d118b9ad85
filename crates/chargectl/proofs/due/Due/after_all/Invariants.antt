use Rattle.std.proofs.Common.{◌≡◌, ◌+◌, ◌≤◌, ◌++◌, [], ◌∷◌, length, reverse, take}
use Rattle.chargectl.specs.ClientRequests.{all_behind}
use Rattle.chargectl.specs.Serving.{due_from}
use Rattle.chargectl.proofs.due.Due.after_all.Given as goal

-- what is due after the client and those behind it so far
abbrev pub invariant-loop-what : goal.invariant-loop-what
invariant-loop-what l = record {
  due : l.due ≡ due_from l.fn.self
      (all_behind l.attended.served (reverse (take l.what-index l.later)) ++ l.attended.served ∷ []);
  each : (l.due.left + l.due.beside) + (length (take l.what-index l.later) + 1)
      ≡ l.fn.self.left + l.fn.self.beside;
  left : l.fn.self.left ≤ l.due.left + (l.what-index + 1);
}
