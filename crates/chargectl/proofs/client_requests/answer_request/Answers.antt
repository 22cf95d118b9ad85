use Rattle.std.proofs.Common.{arith}
use Rattle.chargectl.proofs.ClientLemmas.{none_count, settled_alone, settled_by}
use Rattle.chargectl.proofs.client_requests.answer_request.Goals as goal

pub returns-in-Settled-clause-from : goal.returns-in-Settled-clause-from
returns-in-Settled-clause-from g c =
    let contents = g.W.Write.contents in
    let sent = c.send_to-served in
    rw c.in-Settled.is
    (settled_alone g.S.Repository.shelf c.args.book.now c.args.repository.now c.in-Settled.answer
    (contents c.args.writer) (contents sent.result.1) sent.result.0 c.new-later.result.items
    c.new-later.ensures.items sent.ensures.sent)

pub returns-in-Settled-clause-count : goal.returns-in-Settled-clause-count
returns-in-Settled-clause-count g c =
    let none = none_count c.send_to-served.result.0 c.new-later.result.items c.new-later.ensures.items in
    omega (arith, none)

-- what is asked of the books is not settled
pub returns-in_default-clause-alone : goal.returns-in_default-clause-alone
returns-in_default-clause-alone g c = λ none.
    let it = settled_by c.args.request none in
    absurd (c.in_default.not-Settled it.0 it.1)
