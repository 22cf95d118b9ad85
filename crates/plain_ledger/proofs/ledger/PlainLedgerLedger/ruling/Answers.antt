use Rattle.std.proofs.Common.{Option, refl, option_map}
use Rattle.book_model.specs.declared.listed_ruling.ListedRuling.{ListedRuling}
use Rattle.book_model.specs.Words.{ruling_outcome, ruling_shown}
use Rattle.book_core.proofs.OpenAnswers.{answered_open}
use Rattle.plain_ledger.specs.LedgerBook.{ledger_book}
use Rattle.plain_ledger.specs.PlainBook.{naming_in}
use Rattle.plain_ledger.proofs.PlainCallLemmas.{read_in_memory}
use Rattle.plain_ledger.proofs.ledger.PlainLedgerLedger.ruling.Goals as goal

pub returns-clause-ruling : goal.returns-clause-ruling
returns-clause-ruling g c =
    let ledger = c.args.self.now in
    let names = g.N.Naming.name_of (naming_in ledger.books) in
    read_in_memory (λ (found : Option ListedRuling). option_map ruling_shown found) names
    (ledger_book ledger) c.ruling_listed.result (ruling_outcome names c.args.number) refl
    (answered_open _) c.ruling_listed.ensures.ruling
