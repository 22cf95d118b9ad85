use Rattle.std.proofs.Common.{arith, refl, subst, sym}
use Rattle.without_books.specs.ServedLines.{seen_of}
use Rattle.chargectl.specs.ClientRequests.{told_of}
use Rattle.chargectl.specs.Serving.{CameInTurn}
use Rattle.chargectl.proofs.ServingLemmas.{log_left, serving_more, told_count}
use Rattle.chargectl.proofs.serve.serve_each.Goals as goal

pub loop-connections-preserved : goal.loop-connections-preserved
loop-connections-preserved g c =
    let shelf = g.S.Repository.shelf in
    let seen = seen_of g.O.Write.contents in
    record {
      serving = serving_more shelf g.C.Connections.sent g.C.Connections.may_come
          g.C.Connections.most c.args.connections.now c.loop-connections.connections
          c.next.new.self c.args.book.now c.args.repository.now c.loop-connections.repository
          c.next.new.repository
          (seen c.args.lines.now) (seen c.loop-connections.lines) (seen c.say_attended.new.lines)
          (told_of c.in-Ok.attended) c.loop-connections.invariant.serving c.in-Ok.ensures.came
          c.say_attended.ensures c.in-Ok.ensures.most;
      log = subst (λ is. (shelf c.next.new.repository).has_log c.args.book.now is)
          (sym c.unwrap_or-has_log.ensures)
          (log_left shelf c.args.book.now c.loop-connections.repository c.next.new.repository
          c.loop-connections.has_log c.in-Ok.attended.log c.loop-connections.invariant.log
          c.in-Ok.ensures.log);
    }

-- at least one was told of
pub loop-connections-smaller : goal.loop-connections-smaller
loop-connections-smaller g c =
    let most = c.in-Ok.ensures.most in
    let count = told_count c.in-Ok.attended in
    omega (arith, most, count)

-- one did not come: the books are as they were
pub returns-in-Err-clause-served : goal.returns-in-Err-clause-served
returns-in-Err-clause-served g c =
    let it = c.loop-connections.invariant.serving in record {
      last = c.loop-connections.connections;
      serving = record {
        told = it.told;
        came = subst
            (λ place. CameInTurn g.S.Repository.shelf g.C.Connections.sent g.C.Connections.may_come
            c.args.book.now c.args.connections.now c.loop-connections.connections
            c.args.repository.now place it.told) (sym c.in-Err.ensures.none) it.came;
        count = it.count;
        lines = it.lines;
      };
      ends = c.in-Err.ensures.failed;
      count = c.in-Err.ensures.most;
    }

pub returns-clause-served : goal.returns-clause-served
returns-clause-served g c = record {
  last = c.loop-connections.connections;
  serving = c.loop-connections.invariant.serving;
  ends = refl;
  count = refl;
}
