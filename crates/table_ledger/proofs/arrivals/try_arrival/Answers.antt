use Rattle.std.proofs.Common.{Ok, ap, refl}
use Rattle.book_model.specs.Words.{arrival_outcome}
use Rattle.table_ledger.proofs.ArrivalTries.{arrival_found}
use Rattle.table_ledger.proofs.TryLemmas.{saw_found, saw_none, try_answered, try_refused}
use Rattle.table_ledger.proofs.arrivals.try_arrival.Goals as goal

-- it is read
pub returns : goal.returns
returns g c = λ naming.
    let from = c.args.from.now in
    try_answered (arrival_outcome naming from) (saw_found c.in_ok-found.ensures.looks)
    (record { stored = refl; served = refl })
    (λ book at known. (
      ap Ok (arrival_found naming book at.kept.readable at.kept.journaled from
          c.in_ok-found.found known),
      refl,
    ))

-- what is not read leaves all as it was
pub returns-in_err-found : goal.returns-in_err-found
returns-in_err-found g c = λ naming.
    try_refused _ c.from_residual.ensures.0 saw_none c.in_err-found.ensures.looks
