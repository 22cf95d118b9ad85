use Rattle.std.proofs.Common.{◌∙◌, refl, w32}
use Rattle.book_model.proofs.Std.{to_z-of_z}
use Rattle.plain_ledger.specs.PlainBook.{book_in}
use Rattle.plain_ledger.proofs.PlaceLemmas.{brought_is}
use Rattle.plain_ledger.proofs.plain.PlainBooks.listed_brought.Goals as goal

pub returns-clause-shown : goal.returns-clause-shown
returns-clause-shown g c =
    let ledger = c.args.self.now in
    (rw (to_z-of_z w32 c.args.day c.ranges.day, c.deref.ensures.value)
    at c.in_ok-found.ensures.shown)
    ∙ brought_is (book_in ledger).rulings ledger.replaced.items refl c.args.day c.args.number
