use Rattle.without_books.specs.ServedLines.{seen_of}
use Rattle.chargectl.specs.Serving.{IsServing}
use Rattle.chargectl.proofs.serve.serve_each.Given as goal

abbrev pub invariant-loop-connections : goal.invariant-loop-connections
invariant-loop-connections g l = record {
  serving : IsServing g.S.Repository.shelf g.C.Connections.sent g.C.Connections.may_come
      g.C.Connections.most l.initial.connections l.connections l.book l.initial.repository l.repository
      (seen_of g.O.Write.contents l.initial.lines) (seen_of g.O.Write.contents l.lines);
  log : (g.S.Repository.shelf l.repository).has_log l.book l.has_log;
}

abbrev pub decreases-loop-connections : goal.decreases-loop-connections
decreases-loop-connections g l = g.C.Connections.most l.connections
