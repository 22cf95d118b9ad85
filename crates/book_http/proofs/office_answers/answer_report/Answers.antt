use Rattle.book_http.proofs.Words.{work_as, response_by, AnswersReport, reply_of}
use Rattle.book_http.proofs.office_answers.answer_report.Goals as goal

pub returns : goal.returns
returns g c =
    let old = g.L.Ledger.seen c.args.ledger.now in
    let new = g.L.Ledger.seen c.ask_without_reader.new.ledger in
    let reply = reply_of c.answer_of.result in
    work_as old new _ (AnswersReport old.naming c.args.report c.args.kind reply)
    (λ was before events is asked. record {
      told = response_by c.ask_without_reader.result;
      made = asked;
      replied = c.answer_of.ensures;
    })
    c.ask_without_reader.ensures
