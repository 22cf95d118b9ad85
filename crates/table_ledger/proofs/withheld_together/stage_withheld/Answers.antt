use Rattle.std.proofs.Common.{◌∙◌, ap, nat_le, refl, sym}
use Rattle.book_model.specs.Words.{if_done, most_choices, note_given, record_named}
use Rattle.book_model.specs.Words.{withhold_outcome}
use Rattle.book_core.proofs.RulingLemmas.{withheld_by as meant_by}
use Rattle.table_ledger.proofs.AcceptTries.{saw_as}
use Rattle.table_ledger.proofs.Answering.{ruled_staged}
use Rattle.table_ledger.proofs.StageLemmas.{stage_undone, stage_unseen, staged_so}
use Rattle.table_ledger.proofs.TryLemmas.{saw_found, saw_none, saw_then}
use Rattle.table_ledger.proofs.WithholdTries.{saw_withheld, withheld_plain, withhold_none}
use Rattle.table_ledger.proofs.WithholdTries.{withhold_staged, withhold_told}
use Rattle.table_ledger.proofs.Words.{opens}
use Rattle.table_ledger.proofs.withheld_together.stage_withheld.Goals as goal

-- there is none
pub returns-in_default-clause-stages : goal.returns-in_default-clause-stages
returns-in_default-clause-stages g c =
    λ naming.
    let name = c.args.name in
    ruled_staged (withhold_outcome naming (note_given c.args.note.now) name) refl (opens refl refl) (λ is. cc)
    (saw_as name c.in_default.is c.in_ok-stored.ensures.looks)
    (λ book at known. withhold_none naming c.args.summary.now name _ book at known)
    (λ book already. ap (if_done (meant_by (note_given c.args.note.now) (record_named naming book.held name)))
    already)

-- the answer is not Done
pub returns-then-not-is_done-clause-stages : goal.returns-then-not-is_done-clause-stages
returns-then-not-is_done-clause-stages g c =
    λ naming.
    let summary = c.args.summary.now in
    let name = c.args.name in
    let stored = c.in-Some.stored in
    ruled_staged (withhold_outcome naming (note_given c.args.note.now) name) c.withheld_answer-answer.ensures.answer
    (withheld_plain c.in_ok-withheld.withheld (nat_le most_choices summary.choices))
    (c.is_done.ensures.other c.if-not-is_done.true)
    (saw_withheld name stored c.in-Some.is c.deref.ensures.value c.in_ok-stored.ensures.looks
    c.in_ok-withheld.ensures.looks)
    (λ book at known. withhold_told naming summary name _ book at stored known.0 known.1)
    (λ book already. ap (if_done (meant_by (note_given c.args.note.now) (record_named naming book.held name)))
    already)

-- the work is withheld
pub returns-clause-stages : goal.returns-clause-stages
returns-clause-stages g c =
    λ naming.
    let tests = sym c.withheld_answer-answer.ensures.answer
    ∙ c.is_done.ensures.done c.if-not-is_done.false in
    staged_so _
    (record {
      rulings = refl;
      choices = refl;
      replaced = refl;
      credits = refl;
      held = refl;
      total = refl;
    })
    (withhold_staged naming (note_given c.args.note.now) c.args.summary.now c.args.name c.in-Some.stored c.open_number.result
    c.last_close.result c.in-Some.is c.deref.ensures.value c.in_ok-stored.ensures.looks
    c.in_ok-withheld.ensures.looks c.in_ok-withdrawn.ensures.looks c.in_ok-write_none.ensures
    tests c.open_number.ensures.number c.last_close.ensures)

-- ---- what is not read or written leaves all as it was

pub returns-in_err-stored-clause-stages : goal.returns-in_err-stored-clause-stages
returns-in_err-stored-clause-stages g c =
    λ naming. stage_unseen _ c.from_residual.ensures.0 saw_none c.in_err-stored.ensures.looks

pub returns-in_err-withheld-clause-stages : goal.returns-in_err-withheld-clause-stages
returns-in_err-withheld-clause-stages g c =
    λ naming.
    stage_unseen _ c.from_residual-in_err-withheld.ensures.0 (saw_found c.in_ok-stored.ensures.looks)
    c.in_err-withheld.ensures.looks

pub returns-in_err-withdrawn-clause-stages : goal.returns-in_err-withdrawn-clause-stages
returns-in_err-withdrawn-clause-stages g c =
    λ naming.
    stage_unseen _ c.from_residual-in_err-withdrawn.ensures.0
    (saw_then (saw_found c.in_ok-stored.ensures.looks) (saw_found c.in_ok-withheld.ensures.looks))
    c.in_err-withdrawn.ensures.looks

pub returns-in_err-write_none-clause-stages : goal.returns-in_err-write_none-clause-stages
returns-in_err-write_none-clause-stages g c =
    λ naming.
    stage_undone _ c.from_residual-in_err-write_none.ensures.0
    (saw_then (saw_then (saw_found c.in_ok-stored.ensures.looks)
    (saw_found c.in_ok-withheld.ensures.looks)) (saw_found c.in_ok-withdrawn.ensures.looks))
    c.in_err-write_none.ensures
