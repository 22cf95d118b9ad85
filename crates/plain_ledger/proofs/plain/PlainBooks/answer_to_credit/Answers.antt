use Rattle.std.proofs.Common.{◌≡◌, ◌∙◌, Bool, List, ap, length, map, nat_le, sym, w64, ℤ}
use Rattle.std.proofs.lemmas.List.{length-map}
use Rattle.std.specs.List.{list_any}
use Rattle.book_model.proofs.Std.{to_z-of_z}
use Rattle.book_model.specs.Words.{credit_ruled, credit_shown, is_credit, most_credits}
use Rattle.plain_ledger.specs.PlainBook.{book_in}
use Rattle.plain_ledger.proofs.plain.PlainBooks.answer_to_credit.Goals as goal

pub returns : goal.returns
returns g c =
    let rulings = (book_in c.args.self.now).rulings in
    let credits = c.args.self.now.credits in
    let given = c.is_given-given.ensures
    ∙ (λ i. list_any
    (is_credit c.args.period c.args.centre (to_z-of_z w64 c.args.amount c.ranges.amount i)
    c.args.reason.now) (map credit_shown (c.deref.ensures.value i))) in
    let full = c.has_most-full.ensures
    ∙ ap (nat_le most_credits)
    (c.len.ensures ∙ credits.ok.0 ∙ sym (length-map credits.items credit_shown)) in
    c.credit_answer.ensures
    ∙ (λ i. credit_ruled rulings (given i) (full i) c.args.period c.args.centre)
