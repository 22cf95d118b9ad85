use Rattle.std.proofs.Common.{ap, arith, subst}
use Rattle.book_model.specs.declared.line.Line.{Line}
use Rattle.report_texts.specs.CentreAmounts.{AreAmounts, cost_among, side_amount, with_amount}
use Rattle.report_texts.proofs.CentreAmountLemmas.{own_all, own_fits, own_more, side_within}
use Rattle.report_texts.proofs.centre_amounts.line_amounts.Goals as goal

pub loop-line-init : goal.loop-line-init
loop-line-init c = λ centre. ap (λ all. cost_among all centre) c.new-amounts.ensures.empty

-- with the next line a centre has no more than all lines come to
pub add_amount-requires : goal.add_amount-requires
add_amount-requires c =
    let most =
    own_fits (λ (line : Line). line.priced.centre) (side_amount c.args.is_reversed) c.args.lines.now
    c.loop-line.line-index c.line-item.result c.loop-line.amounts.entries c.loop-line-test.true
    c.line-item.is c.loop-line.invariant in
    let amount = c.side_amount.ensures in
    let all = side_within c.args.is_reversed c.args.lines.now in
    omega (arith, c.requires.amount)

pub loop-line-preserved : goal.loop-line-preserved
loop-line-preserved c =
    own_more (λ (line : Line). line.priced.centre) (side_amount c.args.is_reversed) c.args.lines.now
    c.loop-line.line-index c.line-item.result c.loop-line.amounts.entries
    c.add_amount.new.amounts.entries c.loop-line-test.true c.line-item.is c.loop-line.invariant
    (subst (λ n. AreAmounts c.add_amount.new.amounts.entries
    (with_amount c.loop-line.amounts.entries c.line-item.result.priced.centre n))
    c.side_amount.ensures c.in_ok-add_amount.ensures)

pub returns : goal.returns
returns c =
    own_all (λ (line : Line). line.priced.centre) (side_amount c.args.is_reversed) c.args.lines.now
    c.loop-line.line-index c.loop-line.amounts.entries c.loop-line-test.false
    c.loop-line.invariant
