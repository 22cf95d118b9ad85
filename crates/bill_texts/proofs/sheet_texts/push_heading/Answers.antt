use Rattle.std.proofs.Common.{◌∙◌, ◌++◌, ap, sym}
use Rattle.bill_texts.specs.SheetTexts.{heading}
use Rattle.bill_texts.proofs.sheet_texts.push_heading.Goals as goal

-- each layout has its own
pub returns-in-Sums : goal.returns-in-Sums
unfolding heading
returns-in-Sums c =
    c.push_both.ensures ∙ ap (λ layout. c.args.out.now ++ heading layout) (sym c.in-Sums.is)

pub returns-in-Prices : goal.returns-in-Prices
unfolding heading
returns-in-Prices c =
    c.push_both-in-Prices.ensures ∙ ap (λ layout. c.args.out.now ++ heading layout) (sym c.in-Prices.is)

pub returns-in-Work : goal.returns-in-Work
unfolding heading
returns-in-Work c =
    c.push_work_heading.ensures ∙ ap (λ layout. c.args.out.now ++ heading layout) (sym c.in-Work.is)

pub returns-in-Records : goal.returns-in-Records
unfolding heading
returns-in-Records c =
    c.push_both-in-Records.ensures ∙ ap (λ layout. c.args.out.now ++ heading layout) (sym c.in-Records.is)
