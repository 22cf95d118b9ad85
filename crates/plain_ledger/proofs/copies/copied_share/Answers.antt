use Rattle.book_model.specs.Words.{read_with, reading_shown, told, told_end}
use Rattle.plain_ledger.proofs.copies.copied_share.Goals as goal

pub returns : goal.returns
returns c = λ whole answers kept i.
    told_end c.args.share.now.ending whole
    (told (c.in_ok-note.ensures i) c.args.share.now.begun
    (read_with answers (reading_shown c.args.share.now.reading)) kept)
