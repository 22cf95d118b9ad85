use Rattle.std.proofs.Common.{◌∙◌, sym, ap, List, map, filter, refl}
use Rattle.table_model.specs.Words.{disputes_read, grouped, is_unsettled, tables_of}
use Rattle.table_model.proofs.DisputeLemmas.{disputes_follow}
use Rattle.table_ledger.proofs.Words.{stored_entry, StoredRecord}
use Rattle.table_ledger.proofs.ListReadings.{list_read}
use Rattle.table_ledger.proofs.TryLemmas.{saw_found, saw_none, saw_then, try_refused}
use Rattle.table_ledger.proofs.GivenUp.{given_up}
use Rattle.table_ledger.proofs.disputes.try_disputes.Goals as goal

pub returns-clause-tries : goal.returns-clause-tries
returns-clause-tries g c = λ naming.
    list_read disputes_read (λ book whole. disputes_follow.disputes naming book whole) _
    (saw_then (saw_then (saw_found c.in_ok-rows.ensures.looks)
    (saw_found c.in_ok-chosen.ensures.looks)) (saw_found c.in_ok-grouped.ensures.looks))
    (λ book whole known.
    let tables = tables_of naming book in
    ap grouped (sym (disputes_follow.unsettled naming book _ whole known.0.0.same
    known.0.0.sorted))
    ∙ sym (known.1 known.0.1
    ∙ ap (λ (rows : List StoredRecord). grouped (filter (is_unsettled tables)
    (map stored_entry rows))) c.deref-2.ensures.value))

-- ---- what is not read leaves all as it was

pub returns-in_err-rows-clause-tries : goal.returns-in_err-rows-clause-tries
returns-in_err-rows-clause-tries g c = λ naming.
    try_refused _ c.from_residual.ensures.0 saw_none
    c.in_err-rows.ensures.looks

pub returns-then-not-can_show-clause-tries : goal.returns-then-not-can_show-clause-tries
returns-then-not-can_show-clause-tries g c = λ naming.
    given_up _ refl (saw_found c.in_ok-rows.ensures.looks)

pub returns-in_err-grouped-clause-tries : goal.returns-in_err-grouped-clause-tries
returns-in_err-grouped-clause-tries g c = λ naming.
    try_refused _ c.from_residual-in_err-grouped.ensures.0
    (saw_then (saw_found c.in_ok-rows.ensures.looks) (saw_found c.in_ok-chosen.ensures.looks))
    c.in_err-grouped.ensures.looks

pub returns-in_err-chosen-clause-tries : goal.returns-in_err-chosen-clause-tries
returns-in_err-chosen-clause-tries g c = λ naming.
    try_refused _ c.from_residual-in_err-chosen.ensures.0 (saw_found c.in_ok-rows.ensures.looks)
    c.in_err-chosen.ensures.looks
