use Rattle.std.proofs.Common.{◌∙◌, Ok, Some, ap, refl, sym}
use Rattle.streams.specs.Sources.{reader_of}
use Rattle.request_bursts.proofs.BurstLemmas.{asks_report}
use Rattle.request_bursts.proofs.seen_request.report_in.Goals as goal

pub returns-in-Some : goal.returns-in-Some
returns-in-Some c =
    let read = c.read_request-request in
    let asked = c.in-Some.asked in
    asks_report c.new-source.result read.new.source c.args.sent.now
    (reader_of read.new.source).now asked.0 asked.1 read.result read.ensures.asks
    (c.in-Ok.is ∙ ap Ok c.in-Some.ensures) (sym c.ended.ensures.ended ∙ c.if-ended.false)
    (ap (λ sent. Some sent.now) c.new-source.ensures.reader) refl
