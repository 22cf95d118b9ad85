use Rattle.book_model.specs.Words.{next_detail_outcome}
use Rattle.book_lists.proofs.CursorLemmas.{as_found}
use Rattle.book_lists.proofs.detail_cursors.DetailCursorCursor.next.Goals as goal

pub returns-clause-item : goal.returns-clause-item
returns-clause-item g c =
    as_found c.args.last
    (next_detail_outcome (g.L.Ledger.seen c.args.ledger.now).naming c.args.self.now.period
    c.args.self.now.centre)
    c.next_detail.ensures.detail
