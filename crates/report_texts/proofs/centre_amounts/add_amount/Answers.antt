use Rattle.std.proofs.Common.{◌≡◌, ◌∙◌, ℕ, ◌+◌, Option, ap, arith, rules, unwrap_or}
use Rattle.report_texts.specs.CentreAmounts.{cost_among}
use Rattle.report_texts.proofs.CentreAmountLemmas.{amount_joined}
use Rattle.report_texts.proofs.centre_amounts.add_amount.Goals as goal
use Rattle.report_texts.proofs.centre_amounts.add_amount.Goals.{After-or_insert-own}

-- what was found is what the centre has
found : (c : After-or_insert-own)
    → c.or_insert-own.result.now ≡ cost_among c.args.amounts.now.entries c.args.centre
found c = c.or_insert-own.ensures.value ∙ ap (λ one. unwrap_or one 0) c.in_ok-amounts.ensures.value

pub overflow_add-own : goal.overflow_add-own
overflow_add-own c =
    let had = found (goal.at.overflow_add-own c).After-or_insert-own in
    omega (arith, c.requires)

-- the centre has that and one more amount, and each other has what it had
pub returns : goal.returns
returns c = λ centre.
    let own = c.or_insert-own.result.now in
    let amounts = c.args.amounts.now.entries in
    let more = ap (λ (one : Option ℕ). unwrap_or one 0)
    ((c.in_ok-amounts.ensures.update.0 (own + c.args.amount)).0 centre)
    ∙ amount_joined amounts c.args.centre centre own c.args.amount
    (found (goal.at.returns c).After-or_insert-own) in
    search (rules, more)
