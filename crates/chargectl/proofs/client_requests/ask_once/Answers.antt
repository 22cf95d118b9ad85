use Rattle.std.proofs.Common.{◌∙◌, Ok, ap, subst, sym}
use Rattle.streams.specs.Sinks.{writer_of}
use Rattle.book_core.specs.Transition.{IsTransition}
use Rattle.book_http.specs.declared.asked.Asked.TheVariants as wants
use Rattle.book_http.proofs.StreamLemmas.{sized_sent}
use Rattle.chargectl.specs.ClientRequests.{SendsAnswer, SendsLong, SendsOpen}
use Rattle.chargectl.proofs.ClientLemmas.{details_open, written_so}
use Rattle.chargectl.proofs.client_requests.ask_once.Goals as goal

pub returns-in-Err-clause-done : goal.returns-in-Err-clause-done
returns-in-Err-clause-done g c =
    let contents = g.W.Write.contents in
    let seen = g.L.Ledger.seen in
    let asked = c.in-Err.ensures in
    let details = c.in-Err.long.0 in
    let size = c.in-Err.long.1 in
    let sent = c.send_details-what in
    let old = seen c.args.books.now in
    let new = seen sent.new.ledger in
    let held = contents (writer_of c.new-sink.result) in
    let holds = contents (writer_of sent.new.sink) in
    rw asked.is
    (written_so
    (λ held holds. IsTransition old new
    (SendsAnswer old.naming (wants.Details details) held holds sent.result))
    _ _ _ _ (ap contents c.new-sink.ensures.writer) (ap contents c.into_inner.ensures.writer)
    (details_open old new details size held holds sent.result asked.long
    (sized_sent old (seen c.ask_office.new.ledger) new details size held holds sent.result
    asked.measured sent.ensures.sent)))

pub returns-in-Err-clause-came : goal.returns-in-Err-clause-came
returns-in-Err-clause-came g c =
    let contents = g.W.Write.contents in
    let details = c.in-Err.long.0 in
    let sent = c.send_details-what in
    let sends = written_so (λ held holds. SendsLong details held holds sent.result)
    _ _ _ _ (ap contents c.new-sink.ensures.writer) (ap contents c.into_inner.ensures.writer)
    (record {
      size = c.in-Err.long.1;
      long = c.in-Err.ensures.long;
      some = sent.ensures.some;
      begun = sent.ensures.answered;
    }) in
    record {
      sends = subst
          (λ request. SendsOpen request (contents c.args.writer) (contents c.into_inner.result)
          (Ok sent.result)) (sym c.in-Err.ensures.is) sends;
      failed = λ told. c.into_inner.ensures.cause (sent.ensures.failed ∙ told);
    }
