use Rattle.std.proofs.Common.{ℕ, ◌-◌, arith}
use Rattle.book_core.specs.declared.listed_rulings.RulingCounts.{RulingCounts}
use Rattle.book_core.proofs.ListedLemmas.{at_credit, at_end, at_replaced}
use Rattle.book_core.proofs.listed_rulings.listed_last.Goals as goal

pub returns-then-number-those-clause-stands : goal.returns-then-number-those-clause-stands
returns-then-number-those-clause-stands c = λ (choices : ℕ).
    let counts : RulingCounts =
    record { choices = choices; replaced = c.args.replaced; credits = c.args.credits } in
    at_replaced counts c.args.number
    (omega (arith, c.if-number-those.true, c.from-those.ensures))

pub returns-then-rest-count-clause-stands : goal.returns-then-rest-count-clause-stands
returns-then-rest-count-clause-stands c = λ (choices : ℕ).
    let counts : RulingCounts =
    record { choices = choices; replaced = c.args.replaced; credits = c.args.credits } in
    at_credit counts c.args.number (c.args.number - c.from-those.result)
    (omega (arith, c.if-number-those.false, c.from-those.ensures))
    (omega (arith, c.if-rest-count.true, c.from-count.ensures))

pub returns-clause-stands : goal.returns-clause-stands
returns-clause-stands c = λ (choices : ℕ).
    let counts : RulingCounts =
    record { choices = choices; replaced = c.args.replaced; credits = c.args.credits } in
    at_end counts c.args.number (c.args.number - c.from-those.result)
    (omega (arith, c.if-number-those.false, c.from-those.ensures))
    (omega (arith, c.if-rest-count.false, c.from-count.ensures))
