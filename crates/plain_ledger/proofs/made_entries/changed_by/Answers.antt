use Rattle.std.proofs.Common.{◌∙◌, ap}
use Rattle.book_model.specs.Journal.{read_on}
use Rattle.book_model.specs.Words.{reading_shown}
use Rattle.plain_ledger.specs.MadeEntries.{end_where}
use Rattle.plain_ledger.proofs.made_entries.changed_by.Goals as goal

-- an import keeps the record, and has read what is told
pub returns-in_ok-more-in-Import : goal.returns-in_ok-more-in-Import
returns-in_ok-more-in-Import c =
    let share = c.in-Import.share in
    rw c.in-Import.is
    (c.ended_where.ensures
    ∙ ap (end_where share.ending c.in-Import.whole)
    (c.read_in-read.ensures
    ∙ ap (read_on (reading_shown share.reading))
    (rw c.deref-in-Import.ensures.value at c.in_ok-more-in-Import.ensures)))
