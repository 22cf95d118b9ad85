use Rattle.std.proofs.Common.{refl}
use Rattle.book_model.specs.Words.{periods_outcome}
use Rattle.tests_ledgers.proofs.RefusalLemmas.{refused_after_reading, refused_as}
use Rattle.tests_ledgers.proofs.refusing_ledger.refusal.Goals as goal

pub returns-in-Ok : goal.returns-in-Ok
returns-in-Ok g c =
    refused_after_reading _ _ _ _ _ periods_outcome periods_outcome (λ book. refl) c.in-Ok.ensures.days

pub returns-in-Err : goal.returns-in-Err
returns-in-Err g c = refused_as _ _ _ _ _ _ c.in-Err.ensures.days
