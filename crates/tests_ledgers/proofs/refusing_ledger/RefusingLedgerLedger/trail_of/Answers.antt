use Rattle.book_model.specs.Words.{trail_shown}
use Rattle.tests_ledgers.proofs.RefusalLemmas.{refused_as}
use Rattle.tests_ledgers.proofs.refusing_ledger.RefusingLedgerLedger.trail_of.Goals as goal

pub returns-then-is_due-clause-trail : goal.returns-then-is_due-clause-trail
returns-then-is_due-clause-trail g c =
    refused_as _ trail_shown _ _ _ _ c.refusal.ensures
