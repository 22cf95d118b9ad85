use Rattle.std.proofs.Common.{◌∙◌, Ok, ap, leb-false, length, sym, w64, ℤ}
use Rattle.book_model.proofs.Std.{to_z-of_z}
use Rattle.book_model.proofs.Lemmas.{credit_passes}
use Rattle.book_model.specs.Words.{credit_answer, most_credits}
use Rattle.plain_ledger.specs.PlainBook.{book_in}
use Rattle.plain_ledger.proofs.plain.PlainBooks.give_credit.Goals as goal

-- a credit that is done leaves room for it
pub keep_credit-requires : goal.keep_credit-requires
keep_credit-requires g c =
    let book = book_in c.args.self.now in
    let amount = ap (λ (amount : ℤ).
    credit_answer book.rulings c.args.period c.args.centre amount c.args.reason.now)
    (to_z-of_z w64 c.args.amount c.ranges.amount) in
    let done = sym (c.answer_to_credit-answer.ensures ∙ amount)
    ∙ c.is_done.ensures.done c.if-not-is_done.false in
    record {
      room = leb-false most_credits (length book.rulings.credits)
          (credit_passes book c.args.period c.args.centre c.args.amount c.args.reason.now done).room;
    }
