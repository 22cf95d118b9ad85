use Rattle.std.proofs.Common.{refl, take, drop}
use Rattle.book_http.specs.declared.status.Status.TheVariants.{BadRequest}
use Rattle.book_http.proofs.Words.{has_ended, for_head}
use Rattle.book_http.proofs.ReadLemmas.{head_then, read_as}
use Rattle.book_http.proofs.RequestedLemmas.{head_asking, refused_asking}
use Rattle.book_http.specs.declared.answer.Answer.TheVariants as answer
use Rattle.book_http.specs.declared.asked.Asked.TheVariants as asks
use Rattle.book_http.proofs.requested.read_request.Goals as goal

pub returns-in-Closed-clause-asks : goal.returns-in-Closed-clause-asks
returns-in-Closed-clause-asks g c =
    read_as c.in-Closed.ensures.reads (λ came room due. for_head due)
    (λ came closed. closed.1)

pub returns-in-Failed-clause-asks : goal.returns-in-Failed-clause-asks
returns-in-Failed-clause-asks g c =
    read_as c.in-Failed.ensures.reads (λ came room due. for_head due)
    (λ came failed. tt)

pub returns-in-Refused-clause-asks : goal.returns-in-Refused-clause-asks
returns-in-Refused-clause-asks g c =
    let ended = has_ended c.read_head.new.source in
    read_as c.in-Refused.ensures.reads (λ came room due. for_head due)
    (λ came refused. refused_asking ended came (asks.Settled (answer.Refusal BadRequest))
    refused.0 refused.1 refl)

pub returns-in-Ok-clause-asks : goal.returns-in-Ok-clause-asks
returns-in-Ok-clause-asks g c =
    let ended = has_ended c.read_rest.new.source in
    let whole = c.in-Whole.whole in
    let front = take whole.filled c.read_head.new.buffer in
    let behind = drop whole.spans.len front in
    let head = c.in-Whole.ensures.head in
    let request = c.request_in-request in
    head_then head.1.is_head (c.requires.failed, c.requires.ended)
    (c.in-Whole.ensures.failed, c.in-Whole.ensures.goes_on) c.in-Whole.ensures.reads
    (rw request.ensures.behind at
    (c.in-Ok.ensures.asks head.0 (request.ensures.says head.0 head.1.parts)))
    (λ came asking.
    head_asking ended front behind came head.0 c.in-Ok.requested head.1.is_head asking)

pub returns-in_default-clause-asks : goal.returns-in_default-clause-asks
returns-in_default-clause-asks g c =
    let head = c.in-Whole.ensures.head in
    let request = c.request_in-request in
    head_then head.1.is_head (c.requires.failed, c.requires.ended)
    (c.in-Whole.ensures.failed, c.in-Whole.ensures.goes_on) c.in-Whole.ensures.reads
    (rw request.ensures.behind at
    (c.in_default.ensures.asks head.0 (request.ensures.says head.0 head.1.parts)))
    (λ came failed. tt)
