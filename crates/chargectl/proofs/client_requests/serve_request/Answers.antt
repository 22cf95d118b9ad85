use Rattle.streams.specs.Sources.{has_ended}
use Rattle.book_http.proofs.ReadLemmas.{gave_as}
use Rattle.chargectl.specs.ClientRequests.{later_of}
use Rattle.chargectl.proofs.ClientLemmas.{served_from}
use Rattle.chargectl.proofs.client_requests.serve_request.Goals as goal

pub returns-in-Ok-clause-served : goal.returns-in-Ok-clause-served
returns-in-Ok-clause-served g c =
    let contents = g.W.Write.contents in
    let ended = has_ended c.read_request.new.source in
    let from = c.answer_request in
    gave_as c.in-Ok.ensures.asks
    (λ taken asking. served_from g.S.Repository.shelf c.args.repository.now from.new.repository
    c.args.book.now taken ended (contents c.args.writer) (contents from.result.1)
    from.result.0.served (later_of from.result.0) from.ensures.answered
    (record {
      request = c.in-Ok.request;
      asks = asking;
      answered = from.ensures.from;
      alone = from.ensures.alone;
    }))
