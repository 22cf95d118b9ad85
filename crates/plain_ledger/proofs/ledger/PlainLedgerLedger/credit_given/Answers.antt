use Rattle.std.proofs.Common.{Option, refl, option_map}
use Rattle.book_model.specs.declared.bill.Credit.{Credit}
use Rattle.book_model.specs.Words.{credit_given_outcome, credit_shown}
use Rattle.book_core.proofs.OpenAnswers.{answered_open}
use Rattle.plain_ledger.specs.LedgerBook.{ledger_book}
use Rattle.plain_ledger.specs.PlainBook.{naming_in}
use Rattle.plain_ledger.proofs.PlainCallLemmas.{read_in_memory}
use Rattle.plain_ledger.proofs.ledger.PlainLedgerLedger.credit_given.Goals as goal

pub returns : goal.returns
returns g c =
    let ledger = c.args.self.now in
    let names = g.N.Naming.name_of (naming_in ledger.books) in
    read_in_memory (λ (found : Option Credit). option_map credit_shown found) names
    (ledger_book ledger) c.credit_kept.result (credit_given_outcome c.args.number) refl
    (answered_open _) c.credit_kept.ensures
