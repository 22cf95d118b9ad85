use Rattle.std.proofs.Common.{◌≡◌, ◌∙◌, IfOk, Option, option_map, subst, sym, w32}
use Rattle.book_model.proofs.Std.{to_z-of_z}
use Rattle.book_model.specs.declared.listed_ruling.ListedRuling.{ListedRuling}
use Rattle.book_model.specs.Words.{RulingSeen, ruling_shown}
use Rattle.book_core.specs.OfficeRulings.{ruled_in}
use Rattle.plain_ledger.proofs.PlaceLemmas.{brought_here, brought_last, brought_later}
use Rattle.plain_ledger.proofs.plain.places.listed_behind.Goals as goal

-- it begins on the day
pub returns-then-began_on-clause-shown : goal.returns-then-began_on-clause-shown
returns-then-began_on-clause-shown c =
    let begins = rw (to_z-of_z w32 c.args.day c.ranges.day) at c.began_on.ensures in
    let passed = rw (to_z-of_z w32 c.args.day c.ranges.day) at c.loop-at.invariant in
    let here = brought_here c.args.replaced.now (ruled_in c.args.rulings.now).tariffs c.loop-at.at
    c.index-replaced-at.result c.loop-at-test.true c.index-replaced-at.is c.args.day
    (sym begins ∙ c.if-began_on.true) in
    subst (λ (seen : Option RulingSeen). IfOk c.listed.result
    (λ (found : Option ListedRuling). option_map ruling_shown found ≡ seen))
    (sym here ∙ passed) c.listed.ensures.listed

-- it is passed
pub loop-at-preserved : goal.loop-at-preserved
loop-at-preserved c =
    sym (brought_later c.args.replaced.now (ruled_in c.args.rulings.now).tariffs c.loop-at.at
    c.index-replaced-at.result c.loop-at-test.true c.index-replaced-at.is _
    (sym c.began_on.ensures ∙ c.if-began_on.false))
    ∙ c.loop-at.invariant

-- none of them begins on it
pub returns-clause-shown : goal.returns-clause-shown
returns-clause-shown c =
    let passed = rw (to_z-of_z w32 c.args.day c.ranges.day) at c.loop-at.invariant in
    let last = brought_last c.args.replaced.now (ruled_in c.args.rulings.now).tariffs c.loop-at.at
    c.loop-at-test.false c.args.day in
    subst (λ (seen : Option RulingSeen). IfOk c.listed_on.result
    (λ (found : Option ListedRuling). option_map ruling_shown found ≡ seen))
    (sym last ∙ passed)
    (rw (to_z-of_z w32 c.args.day c.ranges.day) at c.listed_on.ensures.shown)
