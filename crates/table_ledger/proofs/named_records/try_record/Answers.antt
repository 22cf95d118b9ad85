use Rattle.std.proofs.Common.{◌∙◌, Global, Ok, Vec, ap, refl, sym, ℕ}
use Rattle.book_model.specs.Words.{record_outcome, record_with}
use Rattle.table_ledger.proofs.AcceptTries.{saw_as}
use Rattle.table_ledger.proofs.Answering.{makes_answer, makes_refused}
use Rattle.table_ledger.proofs.GivenUp.{given_up}
use Rattle.table_ledger.proofs.RecordTries.{none_held, one_held}
use Rattle.table_ledger.proofs.TryLemmas.{saw_found, saw_none, try_answered, try_refused}
use Rattle.table_ledger.proofs.Words.{opens}
use Rattle.table_ledger.proofs.named_records.try_record.Goals as goal

-- there is none
pub returns-in_default-clause-tries : goal.returns-in_default-clause-tries
returns-in_default-clause-tries g c = λ naming.
    let name = c.args.name.now in
    try_answered (record_outcome naming name)
    (saw_as name c.in_default.is c.in_ok-stored.ensures.looks) (opens refl refl)
    (λ book at known. makes_refused (λ (bytes : Vec ℕ Global). bytes.items)
    (record_outcome naming name book) _ (none_held at name known))

-- it is that of its row
pub returns-clause-tries : goal.returns-clause-tries
returns-clause-tries g c = λ naming.
    let name = c.args.name.now in
    let bytes = c.in_ok-bytes.ensures.bytes ∙ ap record_with c.deref.ensures.value in
    try_answered (record_outcome naming name)
    (saw_as name c.in-Some.is c.in_ok-stored.ensures.looks) (opens refl refl)
    (λ book at known. makes_answer (λ (bytes : Vec ℕ Global). bytes.items)
    (record_outcome naming name book) c.in_ok-bytes.bytes
    (one_held at name c.in-Some.stored known ∙ ap Ok (sym bytes)) refl)

-- ---- what is not read leaves all as it was

pub returns-in_err-stored-clause-tries : goal.returns-in_err-stored-clause-tries
returns-in_err-stored-clause-tries g c = λ naming.
    try_refused _ c.from_residual.ensures.0 saw_none c.in_err-stored.ensures.looks

pub returns-in_err-bytes-clause-tries : goal.returns-in_err-bytes-clause-tries
returns-in_err-bytes-clause-tries g c = λ naming.
    given_up _ c.from_residual-in_err-bytes.ensures.0 (saw_found c.in_ok-stored.ensures.looks)
