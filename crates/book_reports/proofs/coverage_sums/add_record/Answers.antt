use Rattle.std.proofs.Common.{◌∙◌, ap, rules, unwrap_or}
use Rattle.book_reports.proofs.CoverageLemmas.{coverage_joined}
use Rattle.book_reports.proofs.coverage_sums.add_record.Goals as goal

pub returns-clause-joined : goal.returns-clause-joined
returns-clause-joined c = λ details kept.
    let found = c.or_insert-row.ensures.value
    ∙ ap (λ o. unwrap_or o c.empty_coverage.result) c.in_ok-rows.ensures.value in
    let written = c.in_ok-rows.ensures.update.1 c.in-Some.more in
    let more =
    coverage_joined details c.args.one.now c.args.rows.now.entries c.coverage_place-place.result
    c.empty_coverage.result c.or_insert-row.result.now c.in-Some.more kept
    c.coverage_place-place.ensures c.empty_coverage.ensures found c.in-Some.ensures in
    search (rules, written, more)
