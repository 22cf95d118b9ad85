use Rattle.std.proofs.Common.{◌∙◌, ap, ap₂}
use Rattle.book_model.specs.Words.{detail_with, record_with}
use Rattle.tree_tables.specs.Columns.{detail_columns}
use Rattle.tree_tables.proofs.Looking.{looks_found}
use Rattle.tree_tables.proofs.Records.{record_missing, record_there}
use Rattle.tree_tables.proofs.detail_changes.make_detail.Goals as goal

-- no record has the name
pub returns-then-not-branch-clause-looks : goal.returns-then-not-branch-clause-looks
returns-then-not-branch-clause-looks g c =
    looks_found g.S.Store c.find_row.ensures.quiet c.in_ok-find_row.ensures.same
    (λ clean tables holds. record_missing tables holds.records c.in_ok-bytes_key.ensures.made
    (c.in_ok-find_row.ensures.found clean) c.if-not-branch.true)

-- its row is that of the record that was found
pub returns-clause-looks : goal.returns-clause-looks
returns-clause-looks g c =
    looks_found g.S.Store c.find_row.ensures.quiet c.in_ok-find_row.ensures.same
    (λ clean tables holds.
    let there = record_there tables holds.records c.in_ok-bytes_key.ensures.made
    (c.in_ok-find_row.ensures.found clean) c.if-not-branch.false in
    let name = c.args.name.now in
    let kept = c.in_ok-data_of.ensures.read tables.came (name, there.0) there.2 in
    let priced = c.in_ok-priced.ensures.read tables.came (name, there.0) there.2 in
    let bytes = c.in_ok-usage.ensures.value ∙ c.deref.ensures.value
    ∙ c.in_ok-put_data.ensures.bytes ∙ ap record_with kept in (
      there.0,
      there.1,
      c.in_ok-detail_row.ensures
          ∙ ap₂ (λ usage cost. detail_columns (detail_with name usage cost, tt)) bytes priced,
    ))
