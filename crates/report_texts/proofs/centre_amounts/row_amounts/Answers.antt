use Rattle.std.proofs.Common.{ap, arith}
use Rattle.report_texts.proofs.Words.{ChargeRow, cost_among}
use Rattle.report_texts.proofs.CentreAmountLemmas.{own_all, own_fits, own_more}
use Rattle.report_texts.proofs.centre_amounts.row_amounts.Goals as goal

pub loop-row-init : goal.loop-row-init
loop-row-init c = λ centre. ap (λ all. cost_among all centre) c.new-amounts.ensures.empty

-- with the next row a centre has no more than all rows come to
pub add_amount-requires : goal.add_amount-requires
add_amount-requires c =
    let most =
    own_fits (λ (row : ChargeRow). row.centre) (λ row. row.amount) c.args.rows.now
    c.loop-row.row-index c.row-item.result c.loop-row.amounts.entries c.loop-row-test.true
    c.row-item.is c.loop-row.invariant in
    omega (arith, c.requires.amount)

pub loop-row-preserved : goal.loop-row-preserved
loop-row-preserved c =
    own_more (λ (row : ChargeRow). row.centre) (λ row. row.amount) c.args.rows.now
    c.loop-row.row-index c.row-item.result c.loop-row.amounts.entries
    c.add_amount.new.amounts.entries c.loop-row-test.true c.row-item.is c.loop-row.invariant
    c.in_ok-add_amount.ensures

pub returns : goal.returns
returns c =
    own_all (λ (row : ChargeRow). row.centre) (λ row. row.amount) c.args.rows.now
    c.loop-row.row-index c.loop-row.amounts.entries c.loop-row-test.false c.loop-row.invariant
