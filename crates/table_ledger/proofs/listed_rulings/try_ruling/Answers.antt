use Rattle.std.proofs.Common.{Ok, ap, refl}
use Rattle.book_model.specs.Words.{ruling_outcome}
use Rattle.table_ledger.proofs.RulingReads.{choice_read, credit_read, other_read, replaced_read}
use Rattle.table_ledger.proofs.TryLemmas.{saw_found, saw_none, try_answered, try_refused}
use Rattle.table_ledger.proofs.GivenUp.{given_up}
use Rattle.table_ledger.proofs.listed_rulings.try_ruling.Goals as goal

-- a choice is read
pub returns-in_ok-look_for_choice-in-Choice-clause-tries : goal.returns-in_ok-look_for_choice-in-Choice-clause-tries
returns-in_ok-look_for_choice-in-Choice-clause-tries g c = λ naming.
    let number = c.args.number in
    try_answered (ruling_outcome naming number) (saw_found c.in_ok-look_for_choice-in-Choice.ensures.looks)
    (record { stored = refl; served = refl })
    (λ book at known. (
      ap Ok (choice_read at.remembers naming at.kept.readable number c.in-Choice.place _
          (rw c.in-Choice.is at c.in_ok-listed.ensures.stands) known),
      refl,
    ))

-- a replaced tariff is read
pub returns-in_ok-look_for_replaced-in-Replaced-clause-tries :
    goal.returns-in_ok-look_for_replaced-in-Replaced-clause-tries
returns-in_ok-look_for_replaced-in-Replaced-clause-tries g c = λ naming.
    let number = c.args.number in
    try_answered (ruling_outcome naming number)
    (saw_found c.in_ok-look_for_replaced-in-Replaced.ensures.looks)
    (record { stored = refl; served = refl })
    (λ book at known. (
      ap Ok (replaced_read at.remembers naming at.kept.readable number c.in-Replaced.place _
          (rw c.in-Replaced.is at c.in_ok-listed.ensures.stands) known),
      refl,
    ))

-- a credit is read
pub returns-in_ok-look_for_credit-in-Credit-clause-tries :
    goal.returns-in_ok-look_for_credit-in-Credit-clause-tries
returns-in_ok-look_for_credit-in-Credit-clause-tries g c = λ naming.
    let number = c.args.number in
    try_answered (ruling_outcome naming number)
    (saw_found c.in_ok-look_for_credit-in-Credit.ensures.looks)
    (record { stored = refl; served = refl })
    (λ book at known. (
      ap Ok (credit_read at.remembers naming at.kept.readable number c.in-Credit.place _
          (rw c.in-Credit.is at c.in_ok-listed.ensures.stands) known),
      refl,
    ))

-- another ruling is remembered
pub returns-in-Other-clause-tries : goal.returns-in-Other-clause-tries
returns-in-Other-clause-tries g c = λ naming.
    let number = c.args.number in
    try_answered (ruling_outcome naming number) saw_none (record { stored = refl; served = refl })
    (λ book at known. (
      ap Ok (other_read at.remembers naming at.kept.readable number _
          (rw c.in-Other.is at c.in_ok-listed.ensures.stands)),
      refl,
    ))

-- ---- what is not read leaves all as it was

pub returns-in_err-listed-clause-tries : goal.returns-in_err-listed-clause-tries
returns-in_err-listed-clause-tries g c = λ naming.
    given_up _ c.from_residual.ensures.0 saw_none

pub returns-in_err-look_for_choice-in-Choice-clause-tries :
    goal.returns-in_err-look_for_choice-in-Choice-clause-tries
returns-in_err-look_for_choice-in-Choice-clause-tries g c = λ naming.
    try_refused _ c.from_residual-in_err-look_for_choice-in-Choice.ensures.0 saw_none
    c.in_err-look_for_choice-in-Choice.ensures.looks

pub returns-in_err-look_for_replaced-in-Replaced-clause-tries :
    goal.returns-in_err-look_for_replaced-in-Replaced-clause-tries
returns-in_err-look_for_replaced-in-Replaced-clause-tries g c = λ naming.
    try_refused _ c.from_residual-in_err-look_for_replaced-in-Replaced.ensures.0 saw_none
    c.in_err-look_for_replaced-in-Replaced.ensures.looks

pub returns-in_err-look_for_credit-in-Credit-clause-tries :
    goal.returns-in_err-look_for_credit-in-Credit-clause-tries
returns-in_err-look_for_credit-in-Credit-clause-tries g c = λ naming.
    try_refused _ c.from_residual-in_err-look_for_credit-in-Credit.ensures.0 saw_none
    c.in_err-look_for_credit-in-Credit.ensures.looks
