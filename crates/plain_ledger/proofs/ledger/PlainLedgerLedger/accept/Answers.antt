use Rattle.book_model.specs.declared.answer.Accepted.{Accepted}
use Rattle.book_model.specs.Words.{accept_outcome}
use Rattle.book_core.proofs.OpenAnswers.{accept_open}
use Rattle.plain_ledger.specs.Journals.{entries_in}
use Rattle.plain_ledger.specs.LedgerBook.{ledger_book}
use Rattle.plain_ledger.specs.PlainBook.{book_in, naming_in}
use Rattle.plain_ledger.proofs.JournalLemmas.{accepted_call}
use Rattle.plain_ledger.proofs.PlainCallLemmas.{ledger_call}
use Rattle.plain_ledger.proofs.ledger.PlainLedgerLedger.accept.Goals as goal

pub returns : goal.returns
returns g c =
    let old = c.args.self.now in
    let new = c.keep_told.new.self in
    let names = g.N.Naming.name_of (naming_in old.books) in
    let bytes = c.args.bytes.now in
    ledger_call (λ (accepted : Accepted). accepted) old new c.keep_told.result
    (accept_outcome names bytes) (accept_open names (ledger_book old) bytes)
    c.keep_told.ensures.books.naming
    (accepted_call names bytes (book_in old.books) (book_in new.books) (entries_in old.journal)
    (entries_in new.journal) c.keep_told.result c.keep_told.ensures.books.call
    c.keep_told.ensures.said)
