use Rattle.std.proofs.Common.{None, Option, refl, ℕ}
use Rattle.book_model.specs.Words.{line_period_outcome}
use Rattle.table_ledger.proofs.AcceptTries.{saw_as}
use Rattle.table_ledger.proofs.Answering.{makes_answer}
use Rattle.table_ledger.proofs.LinePeriodTries.{none_told, one_told}
use Rattle.table_ledger.proofs.TryLemmas.{saw_found, saw_none, saw_then, try_answered, try_refused}
use Rattle.table_ledger.proofs.Words.{opens}
use Rattle.table_ledger.proofs.line_periods.try_period_of_line.Goals as goal

-- no record has its name
pub returns-in_default : goal.returns-in_default
returns-in_default g c = λ naming.
    let number = c.args.number in
    let line = c.args.line.now in
    try_answered (line_period_outcome naming number line)
    (saw_as line.name c.in_default.is c.in_ok-stored.ensures.looks) (opens refl refl)
    (λ book at known. makes_answer (λ (period : Option ℕ). period)
    (line_period_outcome naming number line book) None (none_told at number line known) refl)

-- the row of its record tells it
pub returns : goal.returns
returns g c = λ naming.
    let number = c.args.number in
    let line = c.args.line.now in
    let period = c.in_ok-period.period in
    try_answered (line_period_outcome naming number line)
    (saw_then (saw_as line.name c.in-Some.is c.in_ok-stored.ensures.looks)
    (saw_found c.in_ok-period.ensures)) (opens refl refl)
    (λ book at known. makes_answer (λ (period : Option ℕ). period)
    (line_period_outcome naming number line book) period
    (one_told at number line c.in-Some.stored period known.0 known.1) refl)

-- ---- what is not read leaves all as it was

pub returns-in_err-stored : goal.returns-in_err-stored
returns-in_err-stored g c = λ naming.
    try_refused _ c.from_residual.ensures.0 saw_none c.in_err-stored.ensures.looks

pub returns-in_err-period : goal.returns-in_err-period
returns-in_err-period g c = λ naming.
    try_refused _ c.from_residual-in_err-period.ensures.0 (saw_found c.in_ok-stored.ensures.looks)
    c.in_err-period.ensures
