use Rattle.table_ledger.proofs.LooksRefused.{look_refused}
use Rattle.table_ledger.proofs.TryLemmas.{looks_known, saw_found, saw_none, saw_then}
use Rattle.table_ledger.proofs.load.look_for_counts.Goals as goal

pub returns : goal.returns
returns g c = record {
  looks = looks_known (saw_then (saw_then (saw_found c.in_ok-choices.ensures.looks)
      (saw_found c.in_ok-replaced.ensures.looks)) (saw_found c.in_ok-credits.ensures.looks))
      (λ tables known. record {
        choices = known.0.0;
        replaced = known.0.1;
        credits = known.1;
      });
}

-- ---- a look that fails leaves all as it was

pub returns-in_err-choices : goal.returns-in_err-choices
returns-in_err-choices g c = record {
  looks = look_refused _ c.from_residual.ensures.0 saw_none c.in_err-choices.ensures.looks;
}

pub returns-in_err-replaced : goal.returns-in_err-replaced
returns-in_err-replaced g c = record {
  looks = look_refused _ c.from_residual-in_err-replaced.ensures.0
      (saw_found c.in_ok-choices.ensures.looks) c.in_err-replaced.ensures.looks;
}

pub returns-in_err-credits : goal.returns-in_err-credits
returns-in_err-credits g c = record {
  looks = look_refused _ c.from_residual-in_err-credits.ensures.0
      (saw_then (saw_found c.in_ok-choices.ensures.looks)
      (saw_found c.in_ok-replaced.ensures.looks))
      c.in_err-credits.ensures.looks;
}
