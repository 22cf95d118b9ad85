use Rattle.std.proofs.Common.{◌∙◌, ◌++◌, ap, not}
use Rattle.book_import.specs.EntryWork.{AreRead}
use Rattle.book_import.proofs.ReadingLemmas.{all_read, none_read}
use Rattle.book_import.proofs.import_entry.ImportEntry.read.Goals as goal

pub returns-then-is_none-clause-more : goal.returns-then-is_none-clause-more
returns-then-is_none-clause-more c = λ bytes has.
    none_read (AreRead (bytes ++ c.args.piece.now) c.args.self.now.bytes) c.args.self.now.share
    (c.is_none.ensures ∙ ap not c.if-is_none.true)

pub returns-clause-more : goal.returns-clause-more
returns-clause-more c = λ bytes has.
    all_read {Read = AreRead bytes c.args.self.now.bytes} c.args.self.now.share
    (λ are. c.in_ok-add.ensures.more bytes are) has
