use Rattle.std.proofs.Common.{◌≡◌, Some, subst, sym}
use Rattle.named_books.specs.Shelves.{IsTried}
use Rattle.named_books.proofs.ShelfLemmas.{untouched}
use Rattle.memory_books.specs.Kept.{books_at}
use Rattle.memory_books.specs.MemoryShelf.{memory_shelf}
use Rattle.memory_books.proofs.ShelfLemmas.{copy_tried}
use Rattle.memory_books.proofs.shelf.MemoryBooksRepository.try_out.Goals as goal

pub returns-in-Some-copied-clause-tried : goal.returns-in-Some-copied-clause-tried
returns-in-Some-copied-clause-tried g c =
    let shelf = memory_shelf g.L.Ledger.seen g.L.KeptLedger.names c.args.self.now in
    let it = c.visit_copy.ensures.visits in
    subst (λ answer. IsTried
    (g.V.Visit.work g.L.KeptLedger.names c.args.visit.now c.visit_copy.new.visit)
    c.args.book.now shelf shelf answer)
    (sym c.without_log-in-Some-copied.ensures.answer) (
      untouched c.args.book.now shelf,
      copy_tried g.L.Ledger.seen g.L.KeptLedger.names g.met.L.KeptLedger.stays c.args.book.now
          c.args.self.now.kept.items c.in-Some.books.now c.in-Some-copied.copy it.left
          (λ naming. g.V.Visit.work naming c.args.visit.now c.visit_copy.new.visit c.visit_copy.result)
          (subst (λ kept. books_at kept c.args.book.now ≡ Some c.in-Some.books.now) c.as_slice.ensures.value
          c.in-Some.ensures)
          c.in-Some-copied.ensures it.made,
    )
