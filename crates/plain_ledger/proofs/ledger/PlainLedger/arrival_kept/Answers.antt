use Rattle.std.proofs.Common.{◌∙◌, Ok, ap, sym}
use Rattle.book_model.specs.Words.{arrival_from, arrivals}
use Rattle.plain_ledger.specs.LedgerBook.{with_entries}
use Rattle.plain_ledger.specs.PlainBook.{book_in, naming_in}
use Rattle.plain_ledger.proofs.ledger.PlainLedger.arrival_kept.Goals as goal

-- by the entries that were made
pub returns : goal.returns
returns g c =
    let ledger = c.args.self.now in
    let names = g.N.Naming.name_of (naming_in ledger.books) in
    ap (λ entries. Ok (arrival_from c.args.from.now
    (arrivals names (with_entries (book_in ledger.books) entries))))
    (sym c.in_ok-made.ensures)
    ∙ ap Ok (sym (rw c.deref.ensures.value at c.arrival_held-found.ensures))
