use Rattle.streams.specs.InputOutput.{output}
use Rattle.streams.specs.Sources.{has_ended}
use Rattle.book_core.specs.Ledgers.{books}
use Rattle.book_http.proofs.ReadLemmas.{gave_as}
use Rattle.book_http.proofs.ServeLemmas.{asked_served}
use Rattle.book_http.proofs.serve.serve_one.Goals as goal

pub returns-in-Ok-clause-served : goal.returns-in-Ok-clause-served
returns-in-Ok-clause-served g c =
    let seen = g.L.Ledger.seen in
    let ended = has_ended c.read_request.new.source in
    let served = c.serve_asked in
    let out = output g.W.Write.contents c.args.sink.now served.new.sink in
    gave_as c.in-Ok.ensures.asks
    (λ taken asking. asked_served (books seen c.args.ledger.now served.new.ledger) taken ended out
    c.in-Ok.request served.result asking served.ensures.answered served.ensures.served)
