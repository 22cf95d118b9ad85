use Rattle.std.proofs.Common.{ap, refl}
use Rattle.plain_ledger.specs.LedgerBook.{with_entries}
use Rattle.plain_ledger.proofs.ledger.PlainLedger.under.Goals as goal

pub returns : goal.returns
returns g c = record {
  book = λ i. with_entries (c.under-books.ensures.book i) (c.new-journal.ensures i);
  naming = ap g.N.Naming.name_of c.under-books.ensures.naming;
  is_open = refl;
  honest = tt;
  books = tt;
}
