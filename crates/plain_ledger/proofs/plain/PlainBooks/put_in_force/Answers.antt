use Rattle.std.proofs.Common.{◌≡◌, ◌∙◌, None, Ok, sym, ap, refl}
use Rattle.book_model.specs.Words.{Book, terms_in, after_any, if_done, tariff_outcome, IsBookCall}
use Rattle.book_model.specs.declared.answer.Ruled.{Ruled}
use Rattle.book_model.proofs.AnswerLemmas.{ruling_calls}
use Rattle.plain_ledger.specs.PlainBook.{book_in}
use Rattle.plain_ledger.specs.Repricing.{ruled_by_cost}
use Rattle.book_core.proofs.RulingLemmas.{said_by}
use Rattle.plain_ledger.proofs.TariffLemmas.{tariff_answer-of}
use Rattle.plain_ledger.proofs.plain.PlainBooks.put_in_force.Given.{Over}
use Rattle.plain_ledger.proofs.plain.PlainBooks.put_in_force.Goals.{After-cost_in_force}

-- the call, where the text was read, by what the ledger answers to its terms
call_is : (g : Over) (c : After-cost_in_force g) (answer : Ruled) (new : Book)
    → ruled_by_cost c.cost_in_force.result ≡ Ok answer
    → new ≡ after_any (if_done (said_by None c.args.text.now (Ok c.in_ok-tariff.tariff)) (Ok answer))
    (book_in c.args.self.now)
    → IsBookCall (λ (value : Ruled). value) (book_in c.args.self.now) new (Ok answer)
    (tariff_outcome None c.args.text.now)
call_is g c answer new is changed =
    let book = book_in c.args.self.now in
    let text = c.args.text.now in
    let read = c.in_ok-tariff.ensures.ok in
    ruling_calls (tariff_outcome None text) (said_by None text (terms_in text)) book new (Ok answer)
    refl
    (tariff_answer-of book text (terms_in text) c.in_ok-tariff.tariff
    (ruled_by_cost c.cost_in_force.result) read c.cost_in_force.ensures.answer ∙ is)
    (changed ∙ ap (λ said. after_any (if_done (said_by None text said) (Ok answer)) book) (sym read))
