use Rattle.book_http.specs.Replies.{reply_of}
use Rattle.chargectl.proofs.ClientLemmas.{short_open}
use Rattle.chargectl.proofs.client_requests.ask_report.Goals as goal

pub returns-then-is_short-clause-done : goal.returns-then-is_short-clause-done
returns-then-is_short-clause-done g c =
    let seen = g.L.Ledger.seen in
    let contents = g.W.Write.contents in
    let asked = c.answer_report-text in
    let sent = c.send_to-what in
    short_open (seen c.args.books.now) (seen asked.new.ledger) c.args.report c.args.kind
    (reply_of asked.result) (contents c.args.writer) (contents sent.result.1) sent.result.0
    (c.is_short.ensures c.if-is_short.true) sent.ensures.sent asked.ensures

pub returns-then-is_short-clause-came : goal.returns-then-is_short-clause-came
returns-then-is_short-clause-came g c = record {
  sends = record {
    reply = reply_of c.answer_report-text.result;
    short = c.is_short.ensures c.if-is_short.true;
    sent = c.send_to-what.ensures.sent;
    begun = c.send_to-what.ensures.answered;
  };
  failed = c.send_to-what.ensures.write;
}
