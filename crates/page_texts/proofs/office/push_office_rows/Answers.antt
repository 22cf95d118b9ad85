use Rattle.std.proofs.Common.{◌∙◌, ◌++◌, ℕ, List, ap, arith}
use Rattle.book_model.specs.Words.{close_of}
use Rattle.page_texts.specs.Figures.{FiguresSeen, figures_seen}
use Rattle.page_texts.specs.OfficePage.{office_row}
use Rattle.page_texts.proofs.PageLemmas.{row_before}
use Rattle.page_texts.proofs.office.push_office_rows.Goals as goal

-- one more row is appended after those of the later periods
pub loop-left-preserved : goal.loop-left-preserved
loop-left-preserved c =
    let left = c.loop-left.left in
    let figures = c.index-periods-left.result in
    let row : ℕ → FiguresSeen → List ℕ =
    λ period seen. office_row period (close_of period c.args.closes.now) seen in
    let some = c.loop-left-test.true in
    let most = c.loop-left.invariant.within in
    record {
      text = c.push_office_row.ensures
          ∙ ap (λ through. c.loop-left.out ++ office_row left through (figures_seen figures))
          c.close_of-through.ensures.close
          ∙ ap (λ out. out ++ row left (figures_seen figures)) c.loop-left.invariant.text
          ∙ row_before row c.args.periods.now left figures c.args.out.now (omega arith)
          most c.index-periods-left.is;
      within = omega arith;
    }
