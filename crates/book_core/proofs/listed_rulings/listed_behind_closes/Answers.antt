use Rattle.std.proofs.Common.{◌-◌, arith}
use Rattle.book_core.specs.declared.listed_rulings.RulingCounts.{RulingCounts}
use Rattle.book_core.proofs.ListedLemmas.{at_choice, past_choices}
use Rattle.book_core.proofs.listed_rulings.listed_behind_closes.Goals as goal

pub returns-then-number-count-clause-stands : goal.returns-then-number-count-clause-stands
returns-then-number-count-clause-stands c =
    let counts : RulingCounts =
    record { choices = c.args.choices; replaced = c.args.replaced; credits = c.args.credits } in
    at_choice counts c.args.adopted c.args.number
    (omega (arith, c.if-number-count.true, c.from-count.ensures))

pub returns-clause-stands : goal.returns-clause-stands
returns-clause-stands c =
    let counts : RulingCounts =
    record { choices = c.args.choices; replaced = c.args.replaced; credits = c.args.credits } in
    past_choices counts c.args.adopted c.args.number (c.args.number - c.from-count.result)
    c.listed_behind_choices.result
    (omega (arith, c.if-number-count.false, c.from-count.ensures))
    (c.listed_behind_choices.ensures.stands c.args.choices)
