use Rattle.std.proofs.Common.{◌≡◌, ◌+◌, arith, length, refl}
use Rattle.chargectl.specs.ClientRequests.{later_of}
use Rattle.chargectl.proofs.ServingLemmas.{alone_together, no_later, told_count}
use Rattle.memory_books.proofs.clients.MemoryClientsConnections.next.Goals as goal

-- nobody came behind it
pub returns-clause-most : goal.returns-clause-most
returns-clause-most g c =
    let came = c.answer_peer-attended in
    let count : 0 + length (later_of came.result.0) ≡ 0 = came.ensures.count in
    let long = told_count came.result.0 in
    omega (arith, count, long, c.requires)

pub returns-clause-came : goal.returns-clause-came
returns-clause-came g c =
    let came = c.answer_peer-attended in
    alone_together g.S.Repository.shelf _ _ c.args.book.now c.args.self.now _ c.args.repository.now
    came.new.repository came.result.0 came.ensures.served (no_later (later_of came.result.0)
    came.ensures.count) refl

pub returns-clause-log : goal.returns-clause-log
returns-clause-log g c = c.answer_peer-attended.ensures.served.log
