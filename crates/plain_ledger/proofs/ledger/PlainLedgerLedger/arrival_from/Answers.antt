use Rattle.std.proofs.Common.{Option, refl}
use Rattle.book_model.specs.declared.entry.Arrival.{Arrival}
use Rattle.book_model.specs.Words.{arrival_outcome}
use Rattle.book_core.proofs.OpenAnswers.{answered_open}
use Rattle.plain_ledger.specs.LedgerBook.{ledger_book}
use Rattle.plain_ledger.specs.PlainBook.{naming_in}
use Rattle.plain_ledger.proofs.PlainCallLemmas.{read_in_memory}
use Rattle.plain_ledger.proofs.ledger.PlainLedgerLedger.arrival_from.Goals as goal

pub returns : goal.returns
returns g c =
    let ledger = c.args.self.now in
    let names = g.N.Naming.name_of (naming_in ledger.books) in
    read_in_memory (λ (found : Option Arrival). found) names (ledger_book ledger)
    c.arrival_kept.result (arrival_outcome names c.args.from.now) refl (answered_open _)
    c.arrival_kept.ensures
