use Rattle.std.proofs.Common.{subst}
use Rattle.book_http.specs.Requested.{AsksAfter}
use Rattle.book_http.proofs.AskedLemmas.{asked_by}
use Rattle.book_http.proofs.requested.read_rest.Goals as goal

pub returns-clause-asks : goal.returns-clause-asks
returns-clause-asks g c head says =
    let request = c.args.request.now in
    subst
    (λ asked. AsksAfter g.R.Read.remaining g.R.Reader.may_answer asked request.behind.now
    c.args.source.now c.read_asked.new.source c.read_asked.result)
    (asked_by head request c.in-Ok.found c.asked_framed-asked.result says c.in-Ok.ensures.value
    c.asked_framed-asked.ensures.asked)
    c.read_asked.ensures.asks
