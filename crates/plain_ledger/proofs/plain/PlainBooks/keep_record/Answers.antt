use Rattle.std.proofs.Common.{refl, Ok}
use Rattle.book_model.specs.declared.answer.Accepted.TheVariants.{Known}
use Rattle.book_model.specs.Words.{has}
use Rattle.book_model.proofs.AnswerLemmas.{answers_itself, accept_calls}
use Rattle.plain_ledger.specs.Plain.{held_in}
use Rattle.plain_ledger.specs.PlainBook.{book_in}
use Rattle.plain_ledger.proofs.AcceptLemmas.{accept_answer-held}
use Rattle.plain_ledger.proofs.plain.PlainBooks.keep_record.Goals as goal

pub returns-then-has : goal.returns-then-has
returns-then-has g c =
    let ledger = c.args.self.now in
    let held = c.has.ensures c.if-has.true (has (held_in ledger.held.entries)) ledger.recalls in
    record {
      call = accept_calls (g.N.Naming.name_of ledger.naming) c.args.bytes.now (book_in ledger)
          (book_in ledger) (Ok Known)
          (answers_itself _ _ (accept_answer-held ledger.kept ledger.rising c.args.bytes.now held))
          refl;
      naming = refl;
    }
