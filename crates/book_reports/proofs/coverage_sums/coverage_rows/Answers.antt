use Rattle.std.proofs.Common.{◌≡◌, ◌∙◌, subst, sym, ◌≤ℤ◌, IfSome, flat_map}
use Rattle.smf_text.specs.Day.{last_day}
use Rattle.book_reports.proofs.Words.{IfOk-weaker, days_between, ends_early, rows_on}
use Rattle.book_reports.proofs.CoverageLemmas.{coverage_is}
use Rattle.book_reports.proofs.coverage_sums.coverage_rows.Goals as goal

pub rows_if-requires : goal.rows_if-requires
rows_if-requires c =
    subst (λ last. IfSome last (λ last. last ≤ℤ last_day)) (sym c.ends_on-last.ensures)
    (ends_early c.args.through c.args.sums.last c.requires.through c.requires.last)

-- the rows are those of the records that the sums are of
pub returns : goal.returns
returns c =
    let systems = c.deref.ensures.value ∙ c.in_ok-systems.ensures in
    IfOk-weaker c.rows_if.result
    (λ made. made.items ≡ flat_map (rows_on c.args.sums.rows.entries c.deref.result.now)
    (days_between c.begins_on-first.result c.ends_on-last.result))
    _
    (λ made is details are.
    is
    ∙ (λ i. flat_map (rows_on c.args.sums.rows.entries (systems i))
    (days_between (c.begins_on-first.ensures i) (c.ends_on-last.ensures i)))
    ∙ coverage_is c.args.sums details are c.args.before c.args.through)
    c.rows_if.ensures
