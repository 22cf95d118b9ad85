use Rattle.book_core.specs.Submissions.{records_in}
use Rattle.tests_ledgers.proofs.RefusalLemmas.{refused_takes}
use Rattle.tests_ledgers.proofs.refusing_ledger.RefusingLedgerLedger.accept_many.Goals as goal

pub returns-then-is_due-clause-takes : goal.returns-then-is_due-clause-takes
returns-then-is_due-clause-takes g c =
    refused_takes _ _ c.args.import.now (records_in c.args.records.now) c.refusal.result
    c.refusal.ensures
