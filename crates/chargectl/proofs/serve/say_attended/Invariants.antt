use Rattle.std.proofs.Common.{reverse, take}
use Rattle.without_books.specs.ServedLines.{Gains, seen_of}
use Rattle.chargectl.specs.ClientRequests.{all_behind}
use Rattle.chargectl.specs.Serving.{lines_of}
use Rattle.chargectl.proofs.serve.say_attended.Given as goal

-- behind the line of the client those of the others so far were written
abbrev pub invariant-loop-what : goal.invariant-loop-what
invariant-loop-what g l =
    Gains (seen_of g.O.Write.contents l.initial.lines) (seen_of g.O.Write.contents l.lines)
    (lines_of (all_behind l.attended.served (reverse (take l.what-index l.later))))
