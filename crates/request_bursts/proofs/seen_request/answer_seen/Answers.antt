use Rattle.book_http.specs.Replies.{reply_of}
use Rattle.request_bursts.proofs.BurstLemmas.{looks_none, looks_report, one_seen, seen_answered}
use Rattle.request_bursts.proofs.seen_request.answer_seen.Goals as goal

pub returns-in_default-clause-answered : goal.returns-in_default-clause-answered
returns-in_default-clause-answered g c = looks_none (g.L.Ledger.seen c.args.books.now)

pub returns-in_default-clause-one : goal.returns-in_default-clause-one
returns-in_default-clause-one g c = looks_none (g.L.Ledger.seen c.args.books.now)

pub returns-then-is_short-clause-answered : goal.returns-then-is_short-clause-answered
returns-then-is_short-clause-answered g c =
    let seen = g.L.Ledger.seen in
    let contents = g.W.Write.contents in
    let asked = c.in-Some.asked in
    let sent = c.send_to-what in
    seen_answered (seen c.args.books.now) (seen c.answer_report-answer.new.ledger) c.args.sent.now
    asked.0 asked.1 (reply_of c.answer_report-answer.result) (contents c.args.writer)
    (contents sent.result.1) sent.result.0 c.in-Some.ensures
    (c.is_short.ensures c.if-is_short.true) sent.ensures.sent c.answer_report-answer.ensures

pub returns-then-is_short-clause-one : goal.returns-then-is_short-clause-one
returns-then-is_short-clause-one g c =
    let seen = g.L.Ledger.seen in
    let contents = g.W.Write.contents in
    let asked = c.in-Some.asked in
    let sent = c.send_to-what in
    let old = seen c.args.books.now in
    let new = seen c.answer_report-answer.new.ledger in
    let held = contents c.args.writer in
    let holds = contents sent.result.1 in
    one_seen old new c.args.sent.now held holds sent.result.0
    (seen_answered old new c.args.sent.now asked.0 asked.1 (reply_of c.answer_report-answer.result) held
    holds sent.result.0 c.in-Some.ensures (c.is_short.ensures c.if-is_short.true) sent.ensures.sent
    c.answer_report-answer.ensures)

pub returns-clause-answered : goal.returns-clause-answered
returns-clause-answered g c =
    let seen = g.L.Ledger.seen in
    looks_report (seen c.args.books.now) (seen c.answer_report-answer.new.ledger) c.in-Some.asked.0
    c.in-Some.asked.1 (reply_of c.answer_report-answer.result) c.answer_report-answer.ensures

pub returns-clause-one : goal.returns-clause-one
returns-clause-one g c =
    let seen = g.L.Ledger.seen in
    looks_report (seen c.args.books.now) (seen c.answer_report-answer.new.ledger) c.in-Some.asked.0
    c.in-Some.asked.1 (reply_of c.answer_report-answer.result) c.answer_report-answer.ensures
