use Rattle.std.proofs.Common.{◌∙◌, ap}
use Rattle.book_model.specs.Words.{detail_with}
use Rattle.tree_tables.specs.Columns.{detail_columns}
use Rattle.tree_tables.specs.Stored.{new_entry}
use Rattle.tree_tables.proofs.DetailRows.{detail_added}
use Rattle.tree_tables.proofs.Looking.{does_alone}
use Rattle.tree_tables.proofs.tables.TreeTables.count_new.Goals as goal

-- the row is there
pub returns : goal.returns
returns g c = record {
  does = does_alone g.S.Store c.add_row.result c.add_row.ensures.quiet c.add_row.ensures.kept
      c.add_row.ensures.done
      (λ clean rewritten. record {
        only = rewritten.only;
        made = λ tables holds new.
            let kept = c.args.kept.now in
            detail_added (new_entry kept) rewritten
            (c.in_ok-detail_row.ensures
            ∙ ap (λ bytes. detail_columns (detail_with kept.name.now bytes kept.priced, tt))
            c.requires.same) holds new;
      });
}
