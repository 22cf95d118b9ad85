use Rattle.std.proofs.Common.{◌≡◌, None, subst}
use Rattle.memory_books.specs.Kept.{books_at}
use Rattle.memory_books.proofs.ShelfLemmas.{made_by}
use Rattle.memory_books.proofs.shelf.MemoryBooksRepository.make.Goals as goal

pub returns-in-Some-begun : goal.returns-in-Some-begun
returns-in-Some-begun g c =
    made_by g.L.Ledger.seen g.L.KeptLedger.names g.met.L.KeptLedger.stays c.args.book.now
    c.args.self.now.kept.items c.keep.new.kept.items c.in-Some-begun.books c.keep.result
    (subst (λ kept. books_at kept c.args.book.now ≡ None) c.as_slice.ensures.value c.in_default.ensures)
    c.in-Some-begun.ensures c.keep.ensures
