use Rattle.std.proofs.Common.{refl}
use Rattle.book_model.specs.Words.{ended_outcome}
use Rattle.book_core.proofs.OpenAnswers.{opens}
use Rattle.plain_ledger.proofs.PlainCallLemmas.{ledger_call}
use Rattle.plain_ledger.proofs.ledger.PlainLedgerLedger.end_import.Goals as goal

pub returns : goal.returns
returns g c =
    ledger_call (λ (done : Unit {0}). done) c.args.self.now c.end_told.new.self c.end_told.result
    (ended_outcome c.args.stop) (opens refl refl) c.end_told.ensures.naming
    c.end_told.ensures.call
