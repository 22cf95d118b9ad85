use Rattle.std.proofs.Common.{◌∙◌, Some, ap, sym}
use Rattle.std.specs.Option.{option_map}
use Rattle.book_model.specs.Words.{line_with, record_with}
use Rattle.table_model.specs.Tables.{RecordRow}
use Rattle.tree_tables.proofs.Looking.{looks_found}
use Rattle.tree_tables.proofs.Records.{record_missing, record_there}
use Rattle.tree_tables.proofs.tables.TreeTables.read_line.Goals as goal

-- no record has the name
pub returns-then-not-branch : goal.returns-then-not-branch
returns-then-not-branch g c =
    let stored = c.args.stored.now in
    record {
      looks = looks_found g.S.Store c.find_row.ensures.quiet c.in_ok-find_row.ensures.same
          (λ clean tables holds. ap (option_map (λ (row : RecordRow).
          line_with stored.plus stored.name (record_with row.data_bytes) row.priced))
          (sym (record_missing tables holds.records c.in_ok-bytes_key.ensures.made
          (c.in_ok-find_row.ensures.found clean) c.if-not-branch.true)));
    }

-- its row is read
pub returns : goal.returns
returns g c =
    let stored = c.args.stored.now in
    record {
      looks = looks_found g.S.Store c.find_row.ensures.quiet c.in_ok-find_row.ensures.same
          (λ clean tables holds.
          let there = record_there tables holds.records c.in_ok-bytes_key.ensures.made
          (c.in_ok-find_row.ensures.found clean) c.if-not-branch.false in
          ap Some (c.in_ok-line.ensures.read tables.came (stored.name, there.0) there.2)
          ∙ ap (option_map (λ (row : RecordRow).
          line_with stored.plus stored.name (record_with row.data_bytes) row.priced))
          (sym there.1));
    }
