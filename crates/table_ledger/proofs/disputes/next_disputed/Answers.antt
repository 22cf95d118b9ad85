use Rattle.std.proofs.Common.{ap, refl, subst, sym, ◌∙◌}
use Rattle.table_ledger.specs.DisputeReads.{is_settled_in}
use Rattle.table_ledger.proofs.DisputeTries.{PassedTo, next_is, passed_none, passed_on}
use Rattle.table_ledger.proofs.LooksRefused.{look_given_up, look_refused}
use Rattle.table_ledger.proofs.TryLemmas.{looks_known, saw_found, saw_none, saw_so, saw_then}
use Rattle.table_ledger.proofs.disputes.next_disputed.Goals as goal

-- none is passed at first
pub identities-init : goal.identities-init
identities-init g c =
    saw_so saw_none (λ tables nothing.
    subst (λ reached. PassedTo c.args.from.now reached tables) (sym c.in_ok-reached.ensures.items)
    (passed_none c.args.from.now tables))

-- it is not settled
pub returns-then-not-settled : goal.returns-then-not-settled
returns-then-not-settled g c = record {
  looks = looks_known (saw_then (saw_then c.identities.invariant
      (saw_found (rw c.in-Some.is at c.in_ok-identity.ensures.looks)))
      (saw_found c.in_ok-settled.ensures.looks))
      (λ tables known. next_is c.args.from.now c.identities.reached.items tables known.0.0
      c.in-Some.identity.items (rw c.deref.ensures.value at known.0.1)
      (ap (is_settled_in tables) (sym c.deref-in-identities.ensures.value)
      ∙ sym known.1 ∙ c.if-not-settled.true));
}

-- it is settled, and is passed
pub identities-preserved : goal.identities-preserved
identities-preserved g c =
    saw_so (saw_then (saw_then c.identities.invariant
    (saw_found (rw c.in-Some.is at c.in_ok-identity.ensures.looks)))
    (saw_found c.in_ok-settled.ensures.looks))
    (λ tables known. passed_on c.args.from.now c.identities.reached.items tables known.0.0
    c.in-Some.identity.items (rw c.deref.ensures.value at known.0.1) c.push.new.self.items
    c.in_ok-push.ensures.items
    (ap (is_settled_in tables) (sym c.deref-in-identities.ensures.value)
    ∙ sym known.1 ∙ c.if-not-settled.false))

-- ---- a look that fails leaves all as it was

pub returns-in_err-reached : goal.returns-in_err-reached
returns-in_err-reached g c = record {
  looks = look_given_up _ c.from_residual.ensures.0 saw_none;
}

pub returns-in_err-identity : goal.returns-in_err-identity
returns-in_err-identity g c = record {
  looks = look_refused _ c.from_residual-in_err-identity.ensures.0 c.identities.invariant
      c.in_err-identity.ensures.looks;
}

pub returns-in_err-settled : goal.returns-in_err-settled
returns-in_err-settled g c = record {
  looks = look_refused _ c.from_residual-in_err-settled.ensures.0
      (saw_then c.identities.invariant (saw_found c.in_ok-identity.ensures.looks))
      c.in_err-settled.ensures.looks;
}

pub returns-in_err-push : goal.returns-in_err-push
returns-in_err-push g c = record {
  looks = look_given_up _ c.from_residual-in_err-push.ensures.0
      (saw_then (saw_then c.identities.invariant (saw_found c.in_ok-identity.ensures.looks))
      (saw_found c.in_ok-settled.ensures.looks));
}

pub returns : goal.returns
returns g c = record {
  looks = look_given_up _ refl c.identities.invariant;
}
