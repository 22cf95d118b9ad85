use Rattle.std.proofs.Common.{ℕ, ◌-◌, Some, arith, subst, sym}
use Rattle.book_model.specs.declared.listed_ruling.ListedRuling.TheVariants.{Adoption}
use Rattle.book_core.specs.ListedRulings.{StandsIn, adoption_part}
use Rattle.book_core.specs.declared.listed_rulings.ListedAt.TheVariants.{Other}
use Rattle.book_core.specs.declared.listed_rulings.RulingCounts.{RulingCounts}
use Rattle.book_core.proofs.ListedLemmas.{at_adoption, past_adoption}
use Rattle.book_core.proofs.listed_rulings.listed_from_adoption.Goals as goal

pub returns-then-number-eq0-clause-stands : goal.returns-then-number-eq0-clause-stands
returns-then-number-eq0-clause-stands c = λ (choices : ℕ).
    let counts : RulingCounts =
    record { choices = choices; replaced = c.args.replaced; credits = c.args.credits } in
    subst (λ (number : ℕ). StandsIn (adoption_part (Some c.args.period)) counts number
    (Other (Some (Adoption c.args.period))))
    (sym c.if-number-eq0.true) (at_adoption counts c.args.period)

pub returns-clause-stands : goal.returns-clause-stands
returns-clause-stands c = λ (choices : ℕ).
    let counts : RulingCounts =
    record { choices = choices; replaced = c.args.replaced; credits = c.args.credits } in
    past_adoption counts c.args.period c.args.number (c.args.number - 1) c.listed_last.result
    (omega (arith, c.if-number-eq0.false)) (c.listed_last.ensures.stands choices)
