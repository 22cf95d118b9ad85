use Rattle.std.proofs.Common.{◌∙◌, ◌||◌, ap, sym}
use Rattle.table_model.specs.Words.{is_withheld_in}
use Rattle.table_ledger.proofs.LooksRefused.{look_refused}
use Rattle.table_ledger.proofs.TryLemmas.{looks_known, saw_found, saw_then}
use Rattle.table_ledger.proofs.disputes.is_settled.Goals as goal

-- a record of it is charged
pub returns-then-charged : goal.returns-then-charged
returns-then-charged g c = record {
  looks = looks_known (saw_found c.in_ok-charged.ensures.looks) (λ tables known.
      sym (ap (λ b. b || is_withheld_in tables c.args.identity.now)
      (sym known ∙ c.if-charged.true)));
}

-- else it is withheld, or it is not
pub returns : goal.returns
returns g c = record {
  looks = looks_known (saw_then (saw_found c.in_ok-charged.ensures.looks)
      (saw_found c.in_ok-withheld.ensures.looks)) (λ tables known.
      known.1
      ∙ sym (ap (λ b. b || is_withheld_in tables c.args.identity.now)
      (sym known.0 ∙ c.if-charged.false)));
}

-- a look that fails leaves all as it was
pub returns-in_err-withheld : goal.returns-in_err-withheld
returns-in_err-withheld g c = record {
  looks = look_refused _ c.from_residual-in_err-withheld.ensures.0
      (saw_found c.in_ok-charged.ensures.looks) c.in_err-withheld.ensures.looks;
}
