use Rattle.std.proofs.Common.{refl}
use Rattle.book_model.specs.Words.{note_shown}
use Rattle.table_model.specs.Steps.{put_journal_row}
use Rattle.table_model.specs.Tables.{Tables}
use Rattle.tree_tables.specs.JournalColumns.{entry_given}
use Rattle.tree_tables.proofs.Holding.{table_put}
use Rattle.tree_tables.proofs.Layouts.{journal_layout}
use Rattle.tree_tables.proofs.Looking.{does_alone}
use Rattle.tree_tables.proofs.tables.TreeTables.put_entry.Goals as goal

pub returns : goal.returns
returns g c =
    let number = c.args.number in
    let entry = entry_given (note_shown c.args.note.now) c.args.act.now in
    record {
      does = does_alone g.S.Store c.put_row.result c.put_row.ensures.quiet c.put_row.ensures.kept
          c.put_row.ensures.puts (λ clean puts. table_put journal_layout
          (λ (tables : Tables). tables.journal) number entry (put_journal_row number entry) puts
          c.in_ok-entry_key.ensures.made c.in_ok-entry_row.ensures
          (λ tables holds. holds.journal) (λ tables. refl) (λ tables placed. placed));
    }
