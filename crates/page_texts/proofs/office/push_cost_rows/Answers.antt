use Rattle.std.proofs.Common.{◌∙◌, ◌++◌, ap, arith}
use Rattle.page_texts.specs.Figures.{figures_seen}
use Rattle.page_texts.specs.OfficePage.{cost_row}
use Rattle.page_texts.proofs.PageLemmas.{row_before}
use Rattle.page_texts.proofs.office.push_cost_rows.Goals as goal

-- one more row is appended after those of the later periods
pub loop-left-preserved : goal.loop-left-preserved
loop-left-preserved c =
    let left = c.loop-left.left in
    let figures = c.index-periods-left.result in
    let row = cost_row c.args.most c.args.centres.now in
    let some = c.loop-left-test.true in
    let most = c.loop-left.invariant.within in
    record {
      text = c.push_cost_row.ensures
          ∙ ap (λ out. out ++ row left (figures_seen figures)) c.loop-left.invariant.text
          ∙ row_before row c.args.periods.now left figures c.args.out.now (omega arith)
          most c.index-periods-left.is;
      within = omega arith;
    }
