use Rattle.std.proofs.Common.{◌≡◌, ◌∙◌, Bool, true, false, sym, ap, Ok, Some, nat_lt}
use Rattle.std.specs.BTreeMap.{values}
use Rattle.book_model.specs.declared.answer.Ruled.TheVariants.{Done}
use Rattle.book_model.specs.Words.{terms_ruled, is_too_dear, most_cost, with_tariff}
use Rattle.book_core.specs.OfficeRulings.{ruled_in}
use Rattle.plain_ledger.specs.PlainBook.{book_in}
use Rattle.plain_ledger.specs.Repricing.{cost_anew, price_anew}
use Rattle.plain_ledger.proofs.RepricingLemmas.{has_room, no_room}
use Rattle.book_model.proofs.LatestLemmas.{later-before}
use Rattle.plain_ledger.proofs.TariffLemmas.{each_anew, later_of, terms_answer-done, total_of-anew}
use Rattle.plain_ledger.proofs.plain.PlainBooks.cost_in_force.Given.{Over}
use Rattle.plain_ledger.proofs.plain.PlainBooks.cost_in_force.Goals.{After-cost_under}
use Rattle.plain_ledger.proofs.plain.PlainBooks.cost_in_force.Goals as goal

-- by the rulings the tariff can be put in force
ruled : (g : Over) (c : After-cost_under g)
    → terms_ruled (ruled_in c.args.self.now.rulings) false c.args.text.now c.args.tariff.now ≡ Ok Done
ruled g c = sym c.tariff_answer.ensures ∙ c.in_ok-tariff_answer.was ∙ ap Ok c.in-Done.is

-- the test of what the records cost, on those that are held
dear_is : (g : Over) (c : After-cost_under g) (dear : Bool)
    → nat_lt most_cost (cost_anew c.args.tariff.now (values c.args.self.now.held)) ≡ dear
    → dear ≡ is_too_dear (with_tariff (Some c.args.text.now) c.args.tariff.now
    (book_in c.args.self.now).rulings) (book_in c.args.self.now).held
dear_is g c dear is =
    let ledger = c.args.self.now in
    let terms = c.args.tariff.now in
    let later = later-before terms.effective (book_in ledger).rulings
    (later_of (book_in ledger) c.args.text.now terms (ruled g c)) in
    sym is
    ∙ ap (nat_lt most_cost)
    (sym (total_of-anew ledger.kept
    (with_tariff (Some c.args.text.now) terms (book_in ledger).rulings) (price_anew terms)
    (each_anew ledger.kept (Some c.args.text.now) terms later) ledger.rising))

pub returns-in_default-clause-answer : goal.returns-in_default-clause-answer
returns-in_default-clause-answer g c =
    let at = (goal.at.returns-in_default-clause-answer g c).After-cost_under in
    terms_answer-done (book_in c.args.self.now) c.args.text.now c.args.tariff.now (ruled g at) true
    (dear_is g at true (no_room _ (sym c.cost_under.ensures ∙ c.in_default.is)))

pub returns-clause-answer : goal.returns-clause-answer
returns-clause-answer g c =
    let at = (goal.at.returns-clause-answer g c).After-cost_under in
    terms_answer-done (book_in c.args.self.now) c.args.text.now c.args.tariff.now (ruled g at) false
    (dear_is g at false (has_room _ c.in-Some.cost (sym c.cost_under.ensures ∙ c.in-Some.is)).1)
