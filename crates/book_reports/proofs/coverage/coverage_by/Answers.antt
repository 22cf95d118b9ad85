use Rattle.std.proofs.Common.{◌≡◌, ◌∙◌, ap, subst, sym, All}
use Rattle.book_model.specs.Words.{IsDay}
use Rattle.book_reports.specs.Coverage.{coverage_as}
use Rattle.book_reports.proofs.CoverageLemmas.{last_is_day, rows_dated}
use Rattle.book_reports.proofs.Words.{IfOk-weaker, CoverageRow}
use Rattle.book_reports.proofs.coverage.coverage_by.Goals as goal

-- the last record is dated on a day
pub coverage_rows-requires-clause-last : goal.coverage_rows-requires-clause-last
coverage_rows-requires-clause-last c =
    last_is_day c.args.sums c.requires.sums.0 c.requires.sums.1

-- and so is each row
pub coverage_as-requires-clause-rows : goal.coverage_as-requires-clause-rows
coverage_as-requires-clause-rows c =
    let details = c.requires.sums.0 in
    let are = c.requires.sums.1 in
    subst (All (λ (row : CoverageRow). IsDay row.day))
    (sym (c.deref.ensures.value ∙ c.in_ok-rows.ensures details are))
    (rows_dated c.args.days.before c.args.days.through details are.days c.requires.before
    c.requires.through)

-- the text is that of the records that the sums are of
pub returns : goal.returns
returns c =
    IfOk-weaker c.coverage_as.result
    (λ text. text.items
    ≡ coverage_as c.args.form c.args.period c.args.days.through c.deref.result.now)
    _
    (λ text is details are.
    is ∙ ap (coverage_as c.args.form c.args.period c.args.days.through)
    (c.deref.ensures.value ∙ c.in_ok-rows.ensures details are))
    c.coverage_as.ensures
