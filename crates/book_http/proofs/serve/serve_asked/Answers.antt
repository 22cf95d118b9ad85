use Rattle.std.proofs.Common.{inl, inr}
use Rattle.book_http.proofs.Words.{writer_of, reply_of}
use Rattle.book_http.proofs.StreamLemmas.{measured_sent}
use Rattle.book_http.proofs.serve.serve_asked.Goals as goal

pub returns-in-Ok-clause-served : goal.returns-in-Ok-clause-served
returns-in-Ok-clause-served g c =
    inl (reply_of c.in-Ok.answer, c.in-Ok.ensures, c.send.ensures.sent)

pub returns-in-Err-clause-served : goal.returns-in-Err-clause-served
returns-in-Err-clause-served g c =
    let seen = g.L.Ledger.seen in
    let held = g.W.Write.contents (writer_of c.args.sink.now) in
    let holds = g.W.Write.contents (writer_of c.send_details.new.sink) in
    let long = c.in-Err.long in
    let it = c.in-Err.ensures in
    inr (
      long.0,
      it.is,
      measured_sent (seen c.args.ledger.now) (seen c.ask_office.new.ledger)
          (seen c.send_details.new.ledger) long.0 long.1 held holds c.send_details.result it.long
          it.measured c.send_details.ensures.sent,
    )
