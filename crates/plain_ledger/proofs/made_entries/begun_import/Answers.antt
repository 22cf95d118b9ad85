use Rattle.std.proofs.Common.{◌∙◌, ap}
use Rattle.book_model.specs.Journal.{Importing}
use Rattle.book_model.specs.Words.{reading_shown, with}
use Rattle.plain_ledger.specs.MadeEntries.{end_where, kept_of}
use Rattle.plain_ledger.proofs.made_entries.begun_import.Goals as goal

-- it has read what is told, and kept the record
pub returns : goal.returns
returns c =
    let share = c.args.share.now in
    let kept = c.in_ok-kept.ensures
    ∙ ap (λ none. with (kept_of none) c.args.bytes.now) c.new.ensures.items in
    let act = c.ended_where-act.ensures
    ∙ ap (λ kept. end_where share.ending c.args.whole
    (Importing (reading_shown share.reading) kept)) kept in
    λ i. record { note = c.in_ok-note.ensures i; act = act i }
