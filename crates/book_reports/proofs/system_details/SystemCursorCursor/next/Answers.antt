use Rattle.book_model.specs.Words.{no_event}
use Rattle.book_lists.proofs.CursorLemmas.{as_found}
use Rattle.book_reports.specs.SystemDetails.{next_on_system}
use Rattle.book_reports.proofs.system_details.SystemCursorCursor.next.Goals as goal

pub returns-clause-item : goal.returns-clause-item
returns-clause-item g c =
    as_found c.args.last
    (λ last book. no_event (next_on_system (g.L.Ledger.seen c.args.ledger.now).naming
    c.args.self.now.period last book))
    c.next_on_system.ensures.item
