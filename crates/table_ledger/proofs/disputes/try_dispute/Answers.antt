use Rattle.std.proofs.Common.{refl, subst, All}
use Rattle.book_model.specs.Words.{dispute_outcome}
use Rattle.table_ledger.proofs.Words.{stored_entry, StoredRecord, IsIdentity, IsShownRow}
use Rattle.table_ledger.proofs.DisputeTries.{made_shows, none_left, one_left}
use Rattle.table_ledger.proofs.GivenUp.{given_up}
use Rattle.table_ledger.proofs.TryLemmas.{saw_found, saw_none, saw_then, try_answered, try_refused}
use Rattle.table_ledger.proofs.disputes.try_dispute.Goals as goal

-- no dispute is left
pub returns-in_default-clause-tries : goal.returns-in_default-clause-tries
returns-in_default-clause-tries g c = λ naming.
    let from = c.args.from.now in
    try_answered (dispute_outcome naming from)
    (saw_found (rw c.in_default.is at c.in_ok-identity.ensures.looks))
    (record { stored = refl; served = refl }) (λ book at known. (none_left at from known, refl))

-- it is the first
pub returns-clause-tries : goal.returns-clause-tries
returns-clause-tries g c = λ naming.
    let from = c.args.from.now in
    try_answered (dispute_outcome naming from)
    (saw_then (saw_found (rw c.in-Some.is at c.in_ok-identity.ensures.looks))
    (saw_found c.in_ok-rows.ensures.looks))
    (record { stored = refl; served = refl }) (λ book at known. (
      one_left at from c.in-Some.identity.items c.in_ok-dispute.dispute c.in_ok-rows.rows.items
          known.0 (rw c.deref.ensures.value at known.1)
          (rw c.deref-4.ensures.value at c.in_ok-dispute.ensures.made),
      refl,
    ))

-- and can be shown
pub returns-clause-shown : goal.returns-clause-shown
returns-clause-shown g c =
    made_shows c.in_ok-dispute.dispute c.in-Some.identity.items c.in_ok-rows.rows.items
    (rw c.deref-4.ensures.value at c.in_ok-dispute.ensures.made)
    (subst IsIdentity c.deref-2.ensures.value
    (c.is_identity.ensures.is (c.if-not-is_identity.false)))
    (subst (All (λ (row : StoredRecord). IsShownRow (stored_entry row))) c.deref-3.ensures.value
    (c.can_show.ensures.shown c.if-not-can_show.false))

-- ---- what is not read leaves all as it was

pub returns-in_err-identity-clause-tries : goal.returns-in_err-identity-clause-tries
returns-in_err-identity-clause-tries g c = λ naming.
    try_refused _ c.from_residual.ensures.0 saw_none c.in_err-identity.ensures.looks

pub returns-in_err-rows-clause-tries : goal.returns-in_err-rows-clause-tries
returns-in_err-rows-clause-tries g c = λ naming.
    try_refused _ c.from_residual-in_err-rows.ensures.0 (saw_found c.in_ok-identity.ensures.looks)
    c.in_err-rows.ensures.looks

pub returns-then-not-is_identity-clause-tries : goal.returns-then-not-is_identity-clause-tries
returns-then-not-is_identity-clause-tries g c = λ naming.
    given_up _ refl (saw_then (saw_found c.in_ok-identity.ensures.looks)
    (saw_found c.in_ok-rows.ensures.looks))

pub returns-then-not-can_show-clause-tries : goal.returns-then-not-can_show-clause-tries
returns-then-not-can_show-clause-tries g c = λ naming.
    given_up _ refl (saw_then (saw_found c.in_ok-identity.ensures.looks)
    (saw_found c.in_ok-rows.ensures.looks))

pub returns-in_err-dispute-clause-tries : goal.returns-in_err-dispute-clause-tries
returns-in_err-dispute-clause-tries g c = λ naming.
    given_up _ c.from_residual-in_err-dispute.ensures.0
    (saw_then (saw_found c.in_ok-identity.ensures.looks) (saw_found c.in_ok-rows.ensures.looks))
