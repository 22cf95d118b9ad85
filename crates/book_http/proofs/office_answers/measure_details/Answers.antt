use Rattle.std.proofs.Common.{◌∙◌, ap, sym, Err}
use Rattle.book_http.proofs.Words.{work_as, AnswersDetails, office_reply, reply_of}
use Rattle.book_http.proofs.GatherLemmas.{refused_status}
use Rattle.book_http.proofs.StreamLemmas.{text_refused}
use Rattle.book_http.proofs.office_answers.measure_details.Goals as goal

pub returns-in-Err-clause-measured : goal.returns-in-Err-clause-measured
returns-in-Err-clause-measured g c =
    let old = g.L.Ledger.seen c.args.ledger.now in
    let new = g.L.Ledger.seen c.details_length.new.ledger in
    let details = c.args.details.now in
    let fault = c.in-Err.fault in
    work_as old new _ (AnswersDetails old.naming details (reply_of c.answer_of.result))
    (λ was before events is called. record {
      told = Err fault;
      made = called;
      replied = c.answer_of.ensures
          ∙ ap (λ kind. office_reply kind (Err fault)) c.form_kind-kind.ensures;
    })
    (text_refused details old new fault c.in-Err.ensures).work

pub returns-in-Err-clause-refused : goal.returns-in-Err-clause-refused
returns-in-Err-clause-refused g c = λ done.
    refused_status c.form_kind-kind.result c.in-Err.fault
    (sym (ap (λ reply. reply.status) c.answer_of.ensures) ∙ done)
