use Rattle.std.proofs.Common.{◌≡◌, None, Some, subst, sym}
use Rattle.book_audit.specs.Copies.{IsCopied}
use Rattle.memory_books.specs.Kept.{books_at}
use Rattle.memory_books.specs.MemoryShelf.{memory_shelf}
use Rattle.memory_books.proofs.ShelfLemmas.{copied_by}
use Rattle.memory_books.proofs.shelf.MemoryBooksAuditedRepository.back_up.Goals as goal

pub returns-in-Ok-clause-copied : goal.returns-in-Ok-clause-copied
returns-in-Ok-clause-copied g c =
    let shelf = memory_shelf g.L.Ledger.seen g.L.KeptLedger.names in
    subst (λ answer. IsCopied c.args.book.now c.args.copy.now (shelf c.args.self.now)
    (shelf (record { kept = c.keep.new.kept; wait = c.args.self.now.wait; alloc = c.args.self.now.alloc }))
    answer)
    (sym c.without_log-in-Ok.ensures.answer)
    (copied_by g.L.Ledger.seen g.L.KeptLedger.names g.met.L.KeptLedger.stays c.args.book.now c.args.copy.now
    c.args.self.now.kept.items c.keep.new.kept.items c.in-Some-find.books.now c.in-Some-copied.copied
    c.in-Some-counted.counts c.keep.result
    (subst (λ kept. books_at kept c.args.book.now ≡ Some c.in-Some-find.books.now)
    c.as_slice-2.ensures.value c.in-Some-find.ensures)
    (subst (λ kept. books_at kept c.args.copy.now ≡ None) c.as_slice.ensures.value c.in_default.ensures)
    c.in-Some-counted.ensures c.in-Some-copied.ensures c.keep.ensures c.in-Ok.is)
