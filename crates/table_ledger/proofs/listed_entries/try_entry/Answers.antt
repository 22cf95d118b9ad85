use Rattle.std.proofs.Common.{Ok, ap, arith, refl}
use Rattle.book_model.specs.Words.{act_listed, entry_outcome}
use Rattle.tree_tables.specs.JournalColumns.{entry_stored}
use Rattle.table_ledger.proofs.EntryTries.{entry_read, none_entered}
use Rattle.table_ledger.proofs.GivenUp.{given_up}
use Rattle.table_ledger.proofs.TryLemmas.{saw_found, saw_none, saw_then, try_answered, try_refused}
use Rattle.table_ledger.proofs.listed_entries.try_entry.Goals as goal

-- there are no more
pub returns-then-number-last-clause-tries : goal.returns-then-number-last-clause-tries
returns-then-number-last-clause-tries g c = λ naming.
    let number = c.args.number in
    try_answered (entry_outcome naming number) (saw_found c.in_ok-last.ensures.looks)
    (record { stored = refl; served = refl })
    (λ book at known. (
      ap Ok (none_entered at.remembers naming at.kept.readable number c.in_ok-last.last known
          (omega (arith, c.if-number-last.true))),
      refl,
    ))

-- its row is read, and its ruling is looked up
pub returns-clause-tries : goal.returns-clause-tries
returns-clause-tries g c = λ naming.
    let number = c.args.number in
    let entry = c.in-Some.entry in
    try_answered (entry_outcome naming number)
    (saw_then (saw_found c.in_ok-last.ensures.looks)
    (saw_then (saw_found (rw c.in-Some.is at c.in_ok-entry.ensures.looks))
    (saw_found c.in_ok-act.ensures.looks)))
    (record { stored = refl; served = refl })
    (λ book at known. (
      ap Ok (entry_read at.remembers naming at.kept.readable number (entry_stored entry)
          (act_listed c.in_ok-act.act) known.1.0 known.1.1),
      refl,
    ))

-- ---- what is not read leaves all as it was

pub returns-in_err-last-clause-tries : goal.returns-in_err-last-clause-tries
returns-in_err-last-clause-tries g c = λ naming.
    try_refused _ c.from_residual.ensures.0 saw_none c.in_err-last.ensures.looks

pub returns-in_err-entry-clause-tries : goal.returns-in_err-entry-clause-tries
returns-in_err-entry-clause-tries g c = λ naming.
    try_refused _ c.from_residual-in_err-entry.ensures.0 (saw_found c.in_ok-last.ensures.looks)
    c.in_err-entry.ensures.looks

pub returns-in_default-clause-tries : goal.returns-in_default-clause-tries
returns-in_default-clause-tries g c = λ naming.
    given_up _ refl
    (saw_then (saw_found c.in_ok-last.ensures.looks) (saw_found c.in_ok-entry.ensures.looks))

pub returns-in_err-act-clause-tries : goal.returns-in_err-act-clause-tries
returns-in_err-act-clause-tries g c = λ naming.
    try_refused _ c.from_residual-in_err-act.ensures.0
    (saw_then (saw_found c.in_ok-last.ensures.looks) (saw_found c.in_ok-entry.ensures.looks))
    c.in_err-act.ensures.looks
