use Rattle.std.proofs.Common.{◌≡◌, ◌∙◌, ◌||◌, Bool, true, false, sym, ap, Ok, Some, length, nat_le}
use Rattle.std.proofs.Common.{nat_lt}
use Rattle.std.proofs.Math.Bool.{or-true}
use Rattle.std.proofs.lemmas.List.{length-map}
use Rattle.std.specs.BTreeMap.{values}
use Rattle.book_model.specs.declared.answer.Ruled.TheVariants.{Done}
use Rattle.book_model.specs.Words.{AcceptedTerms, is_too_dear, most_cost, most_replaced}
use Rattle.book_model.specs.Words.{replace_ruled, with_replaced}
use Rattle.book_core.specs.OfficeRulings.{ruled_in}
use Rattle.book_core.specs.Room.{if_room}
use Rattle.plain_ledger.specs.Plain.{replaced_of}
use Rattle.plain_ledger.specs.PlainBook.{book_in}
use Rattle.plain_ledger.specs.Repricing.{cost_replaced, price_replaced}
use Rattle.plain_ledger.proofs.ChosenLemmas.{at_least, below}
use Rattle.plain_ledger.proofs.RepricingLemmas.{has_room, no_room}
use Rattle.plain_ledger.proofs.TariffLemmas.{each_replaced, replace_answer-done, total_of-anew}
use Rattle.plain_ledger.proofs.plain.PlainBooks.cost_in_its_place.Given.{Over}
use Rattle.plain_ledger.proofs.plain.PlainBooks.cost_in_its_place.Goals.{After-cost_in_place}
use Rattle.plain_ledger.proofs.plain.PlainBooks.cost_in_its_place.Goals.{After-len}
use Rattle.plain_ledger.proofs.plain.PlainBooks.cost_in_its_place.Goals as goal

-- by the rulings the tariff can take the place of one
ruled : (g : Over) (c : After-len g)
    → replace_ruled (ruled_in c.args.self.now.rulings) false c.args.text.now c.args.tariff.now
    ≡ Ok Done
ruled g c =
    sym c.replacing_answer.ensures ∙ c.in_ok-replacing_answer.was ∙ ap Ok c.in-Done.is

-- how many were replaced
count_is : (g : Over) (c : After-len g)
    → c.len.result ≡ length (book_in c.args.self.now).rulings.replaced
count_is g c =
    let replaced = c.args.self.now.replaced in
    c.len.ensures ∙ replaced.ok.0 ∙ sym (length-map replaced.items replaced_of)

-- what the records cost, by the tariffs of the book
cost_is : (g : Over) (c : After-cost_in_place g) → c.cost_in_place.result
    ≡ if_room (cost_replaced (ruled_in c.args.self.now.rulings).tariffs c.args.tariff.now
    (values c.args.self.now.held))
cost_is g c =
    c.cost_in_place.ensures
    ∙ ap (λ tariffs. if_room (cost_replaced tariffs c.args.tariff.now
    (values c.args.self.now.held))) c.tariffs.ensures

-- the test of it, on those that are held
dear_is : (g : Over) (c : After-cost_in_place g) (dear : Bool)
    → nat_lt most_cost (cost_replaced (ruled_in c.args.self.now.rulings).tariffs c.args.tariff.now
    (values c.args.self.now.held)) ≡ dear
    → dear ≡ is_too_dear (with_replaced c.args.text.now c.args.tariff.now
    (book_in c.args.self.now).rulings) (book_in c.args.self.now).held
dear_is g c dear is =
    let ledger = c.args.self.now in
    let rulings = (book_in ledger).rulings in
    let text = c.args.text.now in
    let terms = c.args.tariff.now in
    sym is
    ∙ ap (nat_lt most_cost)
    (sym (total_of-anew ledger.kept (with_replaced text terms rulings)
    (price_replaced rulings.tariffs terms) (each_replaced ledger.kept text terms) ledger.rising))

pub returns-then-len-ge-MAX_REPLACED-clause-answer : goal.returns-then-len-ge-MAX_REPLACED-clause-answer
returns-then-len-ge-MAX_REPLACED-clause-answer g c =
    let at = (goal.at.returns-then-len-ge-MAX_REPLACED-clause-answer g c).After-len in
    let rulings = (book_in c.args.self.now).rulings in
    let text = c.args.text.now in
    let terms = c.args.tariff.now in
    let dear = is_too_dear (with_replaced text terms rulings) (book_in c.args.self.now).held in
    let many = at_least most_replaced c.len.result c.if-len-ge-MAX_REPLACED.true
    ∙ ap (nat_le most_replaced) (count_is g at) in
    replace_answer-done rulings text terms true (ruled g at)
    ∙ ap (λ full. replace_ruled rulings full text terms)
    (sym (or-true dear) ∙ ap (λ b. dear || b) many)

pub returns-in_default-clause-answer : goal.returns-in_default-clause-answer
returns-in_default-clause-answer g c =
    let at = goal.at.returns-in_default-clause-answer g c in
    let rulings = (book_in c.args.self.now).rulings in
    let text = c.args.text.now in
    let terms = c.args.tariff.now in
    let many = nat_le most_replaced (length rulings.replaced) in
    replace_answer-done rulings text terms true (ruled g at.After-len)
    ∙ ap (λ dear. replace_ruled rulings (dear || many) text terms)
    (dear_is g at.After-cost_in_place true
    (no_room _ (sym (cost_is g at.After-cost_in_place) ∙ c.in_default.is)))

pub returns-clause-answer : goal.returns-clause-answer
returns-clause-answer g c =
    let at = goal.at.returns-clause-answer g c in
    let rulings = (book_in c.args.self.now).rulings in
    let text = c.args.text.now in
    let terms = c.args.tariff.now in
    let many = below most_replaced c.len.result c.if-len-ge-MAX_REPLACED.false
    ∙ ap (nat_le most_replaced) (count_is g at.After-len) in
    let dear = dear_is g at.After-cost_in_place false
    (has_room _ c.in-Some.cost (sym (cost_is g at.After-cost_in_place) ∙ c.in-Some.is)).1 in
    replace_answer-done rulings text terms false (ruled g at.After-len)
    ∙ (λ i. replace_ruled rulings (dear i || many i) text terms)

pub returns-clause-cost : goal.returns-clause-cost
returns-clause-cost g c =
    let at = (goal.at.returns-clause-cost g c).After-cost_in_place in
    (has_room _ c.in-Some.cost (sym (cost_is g at) ∙ c.in-Some.is)).0
