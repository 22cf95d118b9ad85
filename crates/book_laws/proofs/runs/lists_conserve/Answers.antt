use Rattle.book_laws.proofs.ListLemmas.{book_lists_conserve, lists_conserve}
use Rattle.book_laws.proofs.runs.lists_conserve.Goals as goal

pub returns : goal.returns
returns g c = record {
  history = lists_conserve g.L.Ledger.seen;
  book = book_lists_conserve g.L.Ledger.seen;
}
