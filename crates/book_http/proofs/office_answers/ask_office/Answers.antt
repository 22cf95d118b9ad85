use Rattle.book_http.specs.Replies.{reply_of}
use Rattle.book_http.proofs.ServeLemmas.{refuses}
use Rattle.book_http.proofs.office_answers.ask_office.Goals as goal

pub returns-in-Settled : goal.returns-in-Settled
returns-in-Settled g c =
    rw c.in-Settled.is (refuses (g.L.Ledger.seen c.args.ledger.now) (reply_of c.in-Settled.answer))

pub returns-in-Ok : goal.returns-in-Ok
returns-in-Ok g c = record {
  is = c.in-Details.is;
  long = c.in-Ok.ensures.long;
  measured = c.in-Ok.ensures.asked;
}
