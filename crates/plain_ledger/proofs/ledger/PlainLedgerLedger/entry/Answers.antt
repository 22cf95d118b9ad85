use Rattle.std.proofs.Common.{Option, refl, option_map}
use Rattle.book_model.specs.declared.entry.ListedEntry.{ListedEntry}
use Rattle.book_model.specs.Words.{entry_outcome, entry_shown}
use Rattle.book_core.proofs.OpenAnswers.{answered_open}
use Rattle.plain_ledger.specs.LedgerBook.{ledger_book}
use Rattle.plain_ledger.specs.PlainBook.{naming_in}
use Rattle.plain_ledger.proofs.PlainCallLemmas.{read_in_memory}
use Rattle.plain_ledger.proofs.ledger.PlainLedgerLedger.entry.Goals as goal

pub returns-clause-entry : goal.returns-clause-entry
returns-clause-entry g c =
    let ledger = c.args.self.now in
    let names = g.N.Naming.name_of (naming_in ledger.books) in
    read_in_memory (λ (found : Option ListedEntry). option_map entry_shown found) names
    (ledger_book ledger) c.entry_listed.result (entry_outcome names c.args.number) refl
    (answered_open _) c.entry_listed.ensures.entry
