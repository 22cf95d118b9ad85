use Rattle.std.proofs.Common.{◌≡◌, ◌∙◌, ◌+◌, arith, length, reverse}
use Rattle.std.proofs.lemmas.List.{length-reverse}
use Rattle.chargectl.specs.declared.client_requests.Attended.{Attended}
use Rattle.chargectl.specs.ClientRequests.{later_of}
use Rattle.chargectl.proofs.ClientLemmas.{length_behind}
use Rattle.chargectl.proofs.ServingLemmas.{any_together, told_count}
use Rattle.tests_books.proofs.client.QueueConnections.next.Goals as goal

-- those that are told of behind a client are those that were answered there
later_length : (attended : Attended)
    → length (later_of attended) ≡ length attended.later.items
later_length attended =
    length_behind attended.served (reverse attended.later.items)
    ∙ length-reverse attended.later.items

pub pass-requires : goal.pass-requires
pass-requires g c =
    let came = c.answer_peer-attended in
    omega (arith, came.ensures.count, later_length came.result.0)

pub returns-clause-most : goal.returns-clause-most
returns-clause-most g c =
    let came = c.answer_peer-attended in
    omega (
      arith,
      came.ensures.count,
      later_length came.result.0,
      told_count came.result.0,
      c.take-client.ensures,
      c.pass.ensures,
    )

pub returns-clause-came : goal.returns-clause-came
returns-clause-came g c =
    let came = c.answer_peer-attended in
    let it = came.ensures.served in
    any_together g.S.Repository.shelf c.args.book.now _ _ c.args.repository.now it.between
    came.new.repository came.result.0.served (later_of came.result.0) it.done it.behind

pub returns-clause-log : goal.returns-clause-log
returns-clause-log g c = c.answer_peer-attended.ensures.served.log
