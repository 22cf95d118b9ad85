use Rattle.table_ledger.proofs.LooksRefused.{look_given_up, look_refused}
use Rattle.table_ledger.proofs.TryLemmas.{saw_found, saw_none}
use Rattle.table_ledger.proofs.upgrading.find_counted.Goals as goal

-- ---- a look that fails leaves all as it was

pub returns-in_err-closes-clause-looks : goal.returns-in_err-closes-clause-looks
returns-in_err-closes-clause-looks g c =
    look_refused _ c.from_residual.ensures.0
    saw_none c.in_err-closes.ensures.looks

pub returns-in_err-last-clause-looks : goal.returns-in_err-last-clause-looks
returns-in_err-last-clause-looks g c =
    look_given_up _ c.from_residual-in_err-last.ensures.0
    (saw_found c.in_ok-closes.ensures.looks)

pub returns-in_err-lines-clause-looks : goal.returns-in_err-lines-clause-looks
returns-in_err-lines-clause-looks g c =
    look_refused _ c.from_residual-in_err-lines.ensures.0
    (saw_found c.in_ok-closes.ensures.looks) c.in_err-lines.ensures.looks
