use Rattle.std.proofs.Common.{◌≡◌, ◌∙◌, ◌≤ℤ◌, IfSome, Option, ℤ, map, subst, sym}
use Rattle.std.proofs.lemmas.Result.{IfOk-weaker}
use Rattle.smf_text.specs.Day.{last_day}
use Rattle.coverage_texts.specs.Coverage.{days_between}
use Rattle.page_texts.proofs.DayLemmas.{costs_known, last_dated}
use Rattle.page_texts.specs.Figures.{costs_by_day, day_cost, first_on, last_on}
use Rattle.page_texts.proofs.figures.day_costs.Goals as goal

-- the last row has a day
pub costs_between-requires : goal.costs_between-requires
costs_between-requires c =
    subst (λ (day : Option ℤ). IfSome day (λ last. last ≤ℤ last_day)) (sym c.last_on-last.ensures)
    (last_dated c.args.rows.now c.requires.days)

-- each day costs what its rows come to
pub returns : goal.returns
returns c =
    let rows = c.args.rows.now in
    IfOk-weaker c.costs_between.result
    (λ costs. costs.items
    ≡ map (day_cost c.in_ok-sums.sums.entries)
    (days_between c.first_on-first.result c.last_on-last.result))
    (λ costs. costs.items ≡ costs_by_day rows)
    (λ costs is.
    is
    ∙ (λ i. map (day_cost (c.in_ok-sums.ensures i))
    (days_between (c.first_on-first.ensures i) (c.last_on-last.ensures i)))
    ∙ costs_known rows (days_between (first_on rows) (last_on rows)))
    c.costs_between.ensures
