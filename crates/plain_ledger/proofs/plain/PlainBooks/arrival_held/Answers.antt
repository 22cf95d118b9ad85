use Rattle.std.proofs.Common.{◌∙◌, refl}
use Rattle.plain_ledger.specs.PlainBook.{book_in}
use Rattle.plain_ledger.proofs.ArrivalNames.{arrival_is}
use Rattle.plain_ledger.proofs.plain.PlainBooks.arrival_held.Goals as goal

pub returns : goal.returns
returns g c =
    let ledger = c.args.self.now in
    c.arrival_among.ensures
    ∙ arrival_is ledger.kept ledger.rising (book_in ledger) refl c.args.made.now c.args.from.now
