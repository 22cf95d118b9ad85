use Rattle.std.proofs.Common.{ap, arith, subst}
use Rattle.report_texts.specs.CentreAmounts.{AreAmounts, cost_among, credit_side, with_amount}
use Rattle.report_texts.specs.declared.charges.CreditAmount.{CreditAmount}
use Rattle.report_texts.proofs.AmountLemmas.{credit_within}
use Rattle.report_texts.proofs.CentreAmountLemmas.{own_all, own_fits, own_more}
use Rattle.report_texts.proofs.centre_amounts.credit_amounts.Goals as goal

pub loop-credit-init : goal.loop-credit-init
loop-credit-init c = λ centre. ap (λ all. cost_among all centre) c.new-amounts.ensures.empty

-- with the next credit a centre has no more than all credits come to
pub add_amount-requires : goal.add_amount-requires
add_amount-requires c =
    let most =
    own_fits (λ (credit : CreditAmount). credit.centre) (credit_side c.args.is_debited)
    c.args.credits.now c.loop-credit.credit-index c.credit-item.result c.loop-credit.amounts.entries
    c.loop-credit-test.true c.credit-item.is c.loop-credit.invariant in
    let amount = c.credit_side.ensures in
    let all = credit_within c.args.is_debited c.args.credits.now in
    omega (arith, c.requires)

pub loop-credit-preserved : goal.loop-credit-preserved
loop-credit-preserved c =
    own_more (λ (credit : CreditAmount). credit.centre) (credit_side c.args.is_debited)
    c.args.credits.now c.loop-credit.credit-index c.credit-item.result c.loop-credit.amounts.entries
    c.add_amount.new.amounts.entries c.loop-credit-test.true c.credit-item.is c.loop-credit.invariant
    (subst (λ n. AreAmounts c.add_amount.new.amounts.entries
    (with_amount c.loop-credit.amounts.entries c.credit-item.result.centre n))
    c.credit_side.ensures c.in_ok-add_amount.ensures)

pub returns : goal.returns
returns c =
    own_all (λ (credit : CreditAmount). credit.centre) (credit_side c.args.is_debited)
    c.args.credits.now c.loop-credit.credit-index c.loop-credit.amounts.entries
    c.loop-credit-test.false c.loop-credit.invariant
