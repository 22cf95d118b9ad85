use Rattle.std.proofs.Common.{Some, ap}
use Rattle.book_model.specs.Words.{note_shown, reading_shown}
use Rattle.table_model.specs.Steps.{put_journal_row}
use Rattle.table_model.specs.Tables.{ImportRow}
use Rattle.table_ledger.proofs.StepLemmas.{does_so}
use Rattle.table_ledger.proofs.ends.write_end.Goals as goal

-- the end is the one that is told
pub returns : goal.returns
returns g c = record {
  does =
      let joined = c.args.joined.now in
      does_so c.put_entry.result c.put_entry.ensures.does (λ tables always. (
        tt,
        ap (λ ending. put_journal_row joined.number (record {
          note = note_shown joined.note.now;
          act = ImportRow (reading_shown joined.reading) (Some ending) joined.kept;
        }) tables) c.ending_of-ending.ensures,
      ));
}
