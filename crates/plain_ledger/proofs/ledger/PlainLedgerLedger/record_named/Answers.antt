use Rattle.std.proofs.Common.{Vec, Global, ℕ, refl}
use Rattle.book_model.specs.Words.{record_outcome}
use Rattle.book_core.proofs.OpenAnswers.{named_open}
use Rattle.plain_ledger.specs.LedgerBook.{ledger_book}
use Rattle.plain_ledger.specs.PlainBook.{naming_in}
use Rattle.plain_ledger.proofs.PlainCallLemmas.{read_in_memory}
use Rattle.plain_ledger.proofs.ledger.PlainLedgerLedger.record_named.Goals as goal

pub returns-clause-bytes : goal.returns-clause-bytes
returns-clause-bytes g c =
    let ledger = c.args.self.now in
    let names = g.N.Naming.name_of (naming_in ledger.books) in
    read_in_memory (λ (bytes : Vec ℕ Global). bytes.items) names (ledger_book ledger)
    c.record_held.result (record_outcome names c.args.name.now) refl (named_open _)
    c.record_held.ensures.bytes
