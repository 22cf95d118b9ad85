use Rattle.std.proofs.Common.{◌∙◌, ◌+◌}
use Rattle.std.specs.FinMap.{insert}
use Rattle.book_model.specs.Words.{note_shown, place_shown}
use Rattle.table_model.specs.Tables.{RulingRow}
use Rattle.table_ledger.specs.Entries.{NumbersEntries}
use Rattle.table_ledger.proofs.StageLemmas.{does_seen}
use Rattle.table_ledger.proofs.StepLemmas.{does_so}
use Rattle.table_ledger.proofs.TryLemmas.{saw_found}
use Rattle.table_ledger.proofs.entries.enter_noted.Goals as goal

-- the newest number is that of the last one, and the next is free
pub returns : goal.returns
returns g c =
    let note = note_shown c.args.note.now in
    let act = RulingRow (place_shown c.args.place) in
    does_seen {When = NumbersEntries} c.put_entry.result
    (saw_found c.in_ok-number.ensures.looks)
    (does_so c.put_entry.result c.put_entry.ensures.does (λ tables known. (
      tt,
      λ i. record tables {
        journal = insert tables.journal ((known.1 ∙ known.0) i + 1)
            (record { note = note; act = act });
      },
    )))
