use Rattle.book_model.specs.Words.{note_given}
use Rattle.book_http.proofs.Words.{work_as, response_by, AnswersImport, reply_of}
use Rattle.book_http.proofs.office_answers.answer_import.Goals as goal

pub returns : goal.returns
returns g c =
    let old = g.L.Ledger.seen c.args.ledger.now in
    let new = g.L.Ledger.seen c.ask_without_reader.new.ledger in
    work_as old new _
    (AnswersImport old.naming c.args.layout c.args.body.items (reply_of c.answer_of.result))
    (λ was before events is asked. record {
      said = note_given c.args.note;
      made = record {
        told = response_by c.ask_without_reader.result;
        made = asked;
        replied = c.answer_of.ensures;
      };
    })
    c.ask_without_reader.ensures
