use Rattle.std.proofs.Common.{◌≡◌, ◌∙◌, refl, subst, Some}
use Rattle.book_model.specs.Words.{IsDay, Terms, note_given, tariff_outcome, with_tariff}
use Rattle.tree_rows.proofs.Calls.{kept_same}
use Rattle.table_ledger.proofs.Answering.{makes_refused}
use Rattle.table_ledger.proofs.CommitLemmas.{committed, uncommitted}
use Rattle.table_ledger.proofs.Remembered.{remembers_same}
use Rattle.table_ledger.proofs.TariffTries.{tariff_full, tariff_is_event}
use Rattle.table_ledger.proofs.StageLemmas.{stage_steps}
use Rattle.table_ledger.proofs.SurvivalLemmas.{survives_so}
use Rattle.table_ledger.proofs.TryLemmas.{saw_found, saw_none, saw_then, try_answered, try_refused}
use Rattle.table_ledger.proofs.TryLemmas.{untried}
use Rattle.table_ledger.proofs.Words.{Ruled, Full, kept_last}
use Rattle.table_ledger.proofs.tariff.put_in_force.Goals as goal

-- a tariff's first day is one, whichever way the tariff is seen
dated : {seen terms : Terms} → seen ≡ terms → IsDay seen.effective → IsDay terms.effective
dated is day = subst (λ (terms : Terms). IsDay terms.effective) is day

-- the books cannot hold what the records cost
pub returns-in_default : goal.returns-in_default
returns-in_default g c = record {
  tries =
      λ naming.
      let noted = note_given c.args.note.now in
      let text = c.args.text.now in
      try_answered _ (saw_then (saw_found c.in_ok-many.ensures)
      (saw_found (rw c.in_default.is at c.in_ok-amount.ensures.looks)))
      (record { stored = refl; served = refl })
      (λ book at known.
      makes_refused (λ (ruled : Ruled). ruled) (tariff_outcome noted text book) Full
      (tariff_full noted c.args.summary.now text c.args.tariff c.requires.said naming _ book at
      c.requires.done known.1));
}

-- the commit is refused
pub returns-in_err-commit_written : goal.returns-in_err-commit_written
returns-in_err-commit_written g c = record {
  tries =
      λ naming.
      let noted = note_given c.args.note.now in
      let day = dated c.tariff.view_is c.tariff.invariant in
      uncommitted g.S.Store _ _ c.from_residual-in_err-commit_written.ensures.0
      (stage_steps _ (saw_then (saw_found c.in_ok-many.ensures)
      (saw_found (rw c.in-Some.is at c.in_ok-amount.ensures.looks)))
      c.write_tariff-written.ensures
      (λ book at known. tariff_is_event noted c.args.summary.now c.args.text.now c.args.tariff
      c.requires.said naming _ book at c.requires.done c.in-Some.amount known.1 c.utf8.text day
      c.open_number-period.result c.open_number-period.ensures.number))
      c.in_err-commit_written.ensures
      (remembers_same c.in_ok-own.ensures.same refl refl refl refl refl);
}

-- the tariff is in force
pub returns : goal.returns
returns g c = record {
  tries =
      λ naming.
      let noted = note_given c.args.note.now in
      let terms = c.args.tariff in
      let day = dated c.tariff.view_is c.tariff.invariant in
      committed g.S.Store
      (stage_steps _ (saw_then (saw_found c.in_ok-many.ensures)
      (saw_found (rw c.in-Some.is at c.in_ok-amount.ensures.looks)))
      c.write_tariff-written.ensures
      (λ book at known. tariff_is_event noted c.args.summary.now c.args.text.now terms
      c.requires.said naming _ book at c.requires.done c.in-Some.amount known.1 c.utf8.text day
      c.open_number-period.result c.open_number-period.ensures.number))
      c.in_ok-commit_written.ensures (record {
        rulings = c.put_tariff.ensures ∙ (λ i. with_tariff (Some (c.in_ok-own.ensures.own i)) terms
            (c.in_ok-own.ensures.same i));
        choices = refl;
        replaced = refl;
        credits = refl;
        held = refl;
        total = refl;
      });
}

-- what the records cost is not known
pub returns-in_err-many : goal.returns-in_err-many
returns-in_err-many g c = record {
  tries = λ naming.
      try_refused _ c.from_residual.ensures.0 saw_none c.in_err-many.ensures;
}

pub returns-in_err-amount : goal.returns-in_err-amount
returns-in_err-amount g c = record {
  tries = λ naming.
      try_refused _ c.from_residual-in_err-amount.ensures.0 (saw_found c.in_ok-many.ensures)
      c.in_err-amount.ensures.looks;
}

-- there is no memory for the tariff
pub returns-in_err-own : goal.returns-in_err-own
returns-in_err-own g c = record {
  tries = λ naming.
      let saw = saw_then (saw_found c.in_ok-many.ensures) (saw_found c.in_ok-amount.ensures.looks) in
      untried _ c.from_residual-in_err-own.ensures.0
      (survives_so saw.survives (λ clean trees none. absurd none))
      (λ clean book ready. kept_last (kept_same (saw.seen clean).same))
      (remembers_same c.in_err-own.ensures.same refl refl refl refl refl);
}
