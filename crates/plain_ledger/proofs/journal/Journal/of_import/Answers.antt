use Rattle.std.proofs.Common.{[], ◌∷◌, ◌∙◌, Some, ap}
use Rattle.book_model.specs.declared.answer.Accepted.TheVariants.{Kept}
use Rattle.book_model.specs.Words.{RecordKept}
use Rattle.plain_ledger.specs.Journals.{entries_by, entries_in, events_told}
use Rattle.plain_ledger.proofs.journal.Journal.of_import.Goals as goal

pub returns : goal.returns
returns c =
    let entries = entries_in c.args.self.now in
    ap (λ events. entries_by events entries)
    (c.in_ok-copy.ensures c.args.whole (Kept ∷ []) (RecordKept c.in_ok-own.own.items ∷ []))
    ∙ ap (λ bytes. entries_by (events_told (Some c.args.share.now) c.args.whole bytes) entries)
    c.in_ok-own.ensures.items
