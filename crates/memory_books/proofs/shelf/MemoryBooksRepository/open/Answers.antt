use Rattle.std.proofs.Common.{subst, sym}
use Rattle.named_books.specs.Shelves.{IsOpened}
use Rattle.memory_books.specs.MemoryShelf.{memory_shelf}
use Rattle.memory_books.proofs.ShelfLemmas.{put_done}
use Rattle.memory_books.proofs.shelf.MemoryBooksRepository.open.Goals as goal

pub returns-in-Some-clause-opened : goal.returns-in-Some-clause-opened
returns-in-Some-clause-opened g c =
    let shelf = memory_shelf g.L.Ledger.seen g.L.KeptLedger.names in
    let visited = c.in-Some.ensures.visits in
    subst (λ answer. IsOpened
    (g.V.Visit.work g.L.KeptLedger.names c.args.visit.now c.visit_kept.new.visit)
    c.args.book.now (shelf c.args.self.now)
    (shelf (record { kept = c.visit_kept.new.kept; wait = c.args.self.now.wait; alloc = c.args.self.now.alloc }))
    answer)
    (sym c.without_log.ensures.answer)
    (put_done g.L.Ledger.seen g.L.KeptLedger.names g.met.L.KeptLedger.stays c.args.book.now visited.0 visited.1
    c.args.self.now.kept.items c.visit_kept.new.kept.items
    (λ naming. g.V.Visit.work naming c.args.visit.now c.visit_kept.new.visit c.in-Some.answer) visited.2
    visited.3)
