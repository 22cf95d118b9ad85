use Rattle.std.proofs.Common.{arith}
use Rattle.book_http.specs.Replies.{reply_of}
use Rattle.book_http.proofs.GatherLemmas.{measured_answered, measured_short}
use Rattle.book_http.proofs.office_answers.ask_details.Goals as goal

pub returns-else-size-gt-MOST_GATHERED-clause-asked : goal.returns-else-size-gt-MOST_GATHERED-clause-asked
returns-else-size-gt-MOST_GATHERED-clause-asked g c =
    let seen = g.L.Ledger.seen in
    measured_answered (seen c.args.ledger.now) (seen c.measure_details.new.ledger)
    (seen c.gather_details.new.ledger) c.args.details.now _ (reply_of c.gather_details.result)
    c.in-Ok.ensures.measured c.gather_details.ensures

-- they were measured, and found short
pub returns-else-size-gt-MOST_GATHERED-clause-short : goal.returns-else-size-gt-MOST_GATHERED-clause-short
returns-else-size-gt-MOST_GATHERED-clause-short g c = λ done.
    let seen = g.L.Ledger.seen in
    measured_short (seen c.args.ledger.now) (seen c.measure_details.new.ledger)
    (seen c.gather_details.new.ledger) c.args.details.now _ (reply_of c.gather_details.result)
    (omega arith) c.in-Ok.ensures.measured c.gather_details.ensures

pub returns-in-Err-clause-short : goal.returns-in-Err-clause-short
returns-in-Err-clause-short g c = λ done. absurd (c.in-Err.ensures.refused done)
