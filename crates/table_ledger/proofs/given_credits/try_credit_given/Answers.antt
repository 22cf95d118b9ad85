use Rattle.std.proofs.Common.{Ok, ap, arith, refl}
use Rattle.book_model.specs.Words.{credit_given_outcome}
use Rattle.table_ledger.proofs.RulingReads.{given_read, none_given}
use Rattle.table_ledger.proofs.TryLemmas.{saw_found, saw_none, try_answered, try_refused}
use Rattle.table_ledger.proofs.given_credits.try_credit_given.Goals as goal

-- there are no more
pub returns-then-number-count : goal.returns-then-number-count
returns-then-number-count g c = λ naming.
    let number = c.args.number in
    try_answered (credit_given_outcome number) saw_none (record { stored = refl; served = refl })
    (λ book at known. (
      ap Ok (none_given at.remembers number
          (omega (arith, c.if-number-count.true, c.from-count.ensures))),
      refl,
    ))

-- there is room for one that was counted
pub look_for_given-requires : goal.look_for_given-requires
look_for_given-requires g c =
    let few = c.args.summary.now.given in
    omega (arith, few, c.if-number-count.false, c.from-count.ensures)

-- or it is read
pub returns : goal.returns
returns g c = λ naming.
    let number = c.args.number in
    try_answered (credit_given_outcome number) (saw_found c.in_ok-credit.ensures)
    (record { stored = refl; served = refl })
    (λ book at known. (ap Ok (given_read naming book number c.in_ok-credit.credit known), refl))

-- what is not read leaves all as it was
pub returns-in_err-credit : goal.returns-in_err-credit
returns-in_err-credit g c = λ naming.
    try_refused _ c.from_residual.ensures.0 saw_none c.in_err-credit.ensures
