use Rattle.std.proofs.Common.{◌≡◌, ◌∙◌, ap, refl, sym, true, List}
use Rattle.table_model.specs.Words.{lines_read, is_period}
use Rattle.table_model.proofs.ListLemmas.{lists_follow}
use Rattle.table_ledger.proofs.Words.{StoredLine, lines_stored}
use Rattle.book_core.specs.Words.{ruled_in}
use Rattle.table_ledger.proofs.LineReadings.{lines_listed}
use Rattle.table_ledger.proofs.ListReadings.{period_read}
use Rattle.table_ledger.proofs.GivenUp.{given_up}
use Rattle.table_ledger.proofs.TryLemmas.{saw_found, saw_none, saw_then, try_refused}
use Rattle.table_ledger.proofs.adjustments.try_adjustments.Goals as goal

pub returns-clause-tries : goal.returns-clause-tries
returns-clause-tries g c = λ naming.
    let number = c.args.period in
    let there : is_period number (ruled_in c.args.summary.now.rulings) ≡ true =
    sym c.has_period.ensures ∙ c.if-not-has_period.false in
    period_read number (lines_read number)
    (λ book whole. lists_follow.adjustments naming book number whole) c.in-Some.sorted there
    (saw_then (saw_found c.in_ok-found.ensures.looks)
    (saw_found c.in_ok-lines.ensures.looks))
    (λ tables known.
    lines_listed number tables c.in_ok-found.found.items c.in_ok-lines.lines.items
    c.in-Some.sorted.items known.0
    (known.1 ∙ ap (λ (some : List StoredLine). lines_stored tables.records some)
    c.deref.ensures.value)
    c.in-Some.ensures.sorted)

-- ---- what is not read leaves all as it was

pub returns-in_err-found-clause-tries : goal.returns-in_err-found-clause-tries
returns-in_err-found-clause-tries g c = λ naming.
    try_refused _ c.from_residual.ensures.0 saw_none c.in_err-found.ensures.looks

pub returns-in_err-lines-clause-tries : goal.returns-in_err-lines-clause-tries
returns-in_err-lines-clause-tries g c = λ naming.
    try_refused _ c.from_residual-in_err-lines.ensures.0 (saw_found c.in_ok-found.ensures.looks)
    c.in_err-lines.ensures.looks

pub returns-in_default-clause-tries : goal.returns-in_default-clause-tries
returns-in_default-clause-tries g c = λ naming.
    given_up _ refl (saw_then (saw_found c.in_ok-found.ensures.looks)
    (saw_found c.in_ok-lines.ensures.looks))
